-- Document 02, point 3: "Reading OFF files". A text is its bytes, from the first to the last; x are the items of a text. Bytes by their
-- numbers: tab 9, newline 10, return 13, space 32, # 35, + 43, - 45, point 46, F 70, O 79.
-- Assumes nothing.
use Rattle.std.specs.Prelude.{◌≡◌, Bool, true, false, not, List, [], ◌∷◌, ◌++◌, ℕ, zero, suc, ◌+◌, ◌*◌, ◌-◌, ◌/◌, ◌%◌, ◌≤◌, min, leb, ltb, eqb, length, get_or}
use Rattle.lists.specs.Tests.{both, either, within, same}
use Rattle.lists.specs.Search.{at, least, tab}
use Rattle.digits.specs.Digits.{digit, value}
use Rattle.rules.specs.Elements.{max_vertex, max_element, first_number}
use Rattle.rules.specs.Refusals.{Answer, gives, refused, check_found, after, onto}

-- "A # starts a comment to the end of the line": the text with a space for each byte of a comment; `inside`: it begins in one
unfoldable pub bare : Bool → List ℕ → List ℕ
bare inside [] = []
bare inside (b ∷ t) =
    elim (eqb b 10) [
      | true ↦ b ∷ bare false t
      | false ↦ elim (either inside (eqb b 35)) [ true ↦ 32 ∷ bare true t | false ↦ b ∷ bare false t ]
    ]

-- "Blanks (space, tab, return, newline)"
abbrev pub is_blank : ℕ → Bool
is_blank b = either (eqb b 32) (either (eqb b 9) (either (eqb b 13) (eqb b 10)))

-- an item: its bytes, and its line, "counted as 1 plus the newlines before it"
pub record Item : Type 0 where
  pub bytes : List ℕ
  pub line : ℕ

-- an item of the bytes w, where there are any, and others after it
unfoldable pub closed : List ℕ → ℕ → List Item → List Item
closed [] line others = others
closed (b ∷ w) line others = record { bytes = b ∷ w; line = line } ∷ others

-- the line after a byte of this line
unfoldable pub line_after : ℕ → ℕ → ℕ
line_after line b = elim (eqb b 10) [ true ↦ line + 1 | false ↦ line ]

-- "Blanks .. part items": the items of a text without comments that goes on, on this line, after the bytes w of an item. Last comes "the
-- text's end", as an item of no bytes
unfoldable pub parted : List ℕ → ℕ → List ℕ → List Item
parted w line [] = closed w line (record { bytes = []; line = line } ∷ [])
parted w line (b ∷ t) =
    elim (is_blank b) [
      | true ↦ closed w line (parted [] (line_after line b) t)
      | false ↦ parted (w ++ (b ∷ [])) line t
    ]

unfoldable pub items : List ℕ → List Item
items t = parted [] 1 (bare false t)

-- item i, counted from 0, and its bytes. What it gives past the text's end decides no answer: the end, which has no bytes, is a bad item
-- unless the form ends with it
unfoldable pub item : List Item → ℕ → Item
item x i = get_or x i (record { bytes = []; line = 0 })

abbrev pub word : List Item → ℕ → List ℕ
word x i = (item x i).bytes

-- "the word OFF"
unfoldable pub is_off : List ℕ → Bool
is_off w = same w (79 ∷ 70 ∷ 70 ∷ [])

-- the first place of w from p on whose byte has the test; where there is none, the end of w, or p if it is past that
unfoldable pub first_from : (ℕ → Bool) → List ℕ → ℕ → ℕ
first_from test w p = p + least (λ i. test (at w (p + i))) (length w - p)

-- where the digits from p on end
abbrev pub past_digits : List ℕ → ℕ → ℕ
past_digits w p = first_from (λ b. not (digit b)) w p

-- "A whole number has 1 to 7 digits"; the number
unfoldable pub is_whole : List ℕ → Bool
is_whole w = both (within 1 7 (length w)) (eqb (past_digits w 0) (length w))

unfoldable pub number_of : List ℕ → ℕ
number_of w = value w 0 (length w)

-- "an optional sign", + or −: where one that stands at p ends; p where none stands there
abbrev pub is_sign : ℕ → Bool
is_sign b = either (eqb b 43) (eqb b 45)

unfoldable pub past_sign : List ℕ → ℕ → ℕ
past_sign w p = elim (is_sign (at w p)) [ true ↦ p + 1 | false ↦ p ]

-- "perhaps a point with digits after it": where one that stands at p ends; p where none stands there
unfoldable pub past_fraction : List ℕ → ℕ → ℕ
past_fraction w p =
    let e = past_digits w (p + 1) in elim (both (eqb (at w p) 46) (ltb (p + 1) e)) [ true ↦ e | false ↦ p ]

-- "a decimal has an optional sign, digits, and perhaps a point with digits after it"
unfoldable pub is_decimal : List ℕ → Bool
is_decimal w =
    let a = past_sign w 0 in
    let e = past_digits w a in
    both (ltb a e) (eqb (past_fraction w e) (length w))

-- "vertex, face and edge counts": items 1, 2 and 3
unfoldable pub the_n : List Item → ℕ
the_n x = number_of (word x 1)

unfoldable pub the_m : List Item → ℕ
the_m x = number_of (word x 2)

-- "three decimal numbers for each vertex; then faces as a corner count and corner numbers": the item with which face f + 1 begins, or
-- which follows the last face
unfoldable pub face_item : List Item → ℕ → ℕ
face_item x zero = 4 + 3 * the_n x
face_item x (suc f) = let i = face_item x f in i + 1 + number_of (word x i)

-- of face f, counted from 1, the corner count, and corner i, counted from 1, as it is written
abbrev pub corners : List Item → ℕ → ℕ
corners x f = number_of (word x (face_item x (f - 1)))

abbrev pub corner_number : List Item → ℕ → ℕ → ℕ
corner_number x f i = number_of (word x (face_item x (f - 1) + i))

-- item i is what the form has there: first the word, for each vertex its decimals, after the last face the text's end, and else a whole
-- number
unfoldable pub is_good : List Item → ℕ → Bool
is_good x i =
    elim (eqb i 0) [
      | true ↦ is_off (word x i)
      | false ↦ elim (within 4 (3 + 3 * the_n x) i) [
        | true ↦ is_decimal (word x i)
        | false ↦ elim (eqb i (face_item x (the_m x))) [ true ↦ same (word x i) [] | false ↦ is_whole (word x i) ]
      ]
    ]

-- how many items the form has, the text's end with them
abbrev pub form_items : List Item → ℕ
form_items x = face_item x (the_m x) + 1

-- 16: "text not in this form, an item past the last face included, with the line of the first bad item or of the text's end"
unfoldable pub bad_item : List Item → ℕ
bad_item x = least (λ i. not (is_good x i)) (form_items x)

abbrev pub in_form : List Item → Bool
in_form x = eqb (bad_item x) (form_items x)

-- its line; 2^28 − 1 for each greater one, since an answer has 28 bits for it
unfoldable pub bad_line : List Item → ℕ
bad_line x = min (item x (bad_item x)).line 268_435_455

-- 1: "a count over its maximum"
abbrev pub counts_fit : List Item → Bool
counts_fit x = both (leb (the_n x) max_vertex) (leb (the_m x) max_element)

-- 17: "a face with a corner count other than 3 or 4, with the first such face"
unfoldable pub unfit_face : List Item → ℕ
unfit_face x = first_number (the_m x) (λ f. not (within 3 4 (corners x f)))

-- "adding 1 to every corner": entry i of the row of face f, 0 past its corners
unfoldable pub row_entry : List Item → ℕ → ℕ → ℕ
row_entry x f i = elim (leb i (corners x f)) [ true ↦ corner_number x f i + 1 | false ↦ 0 ]

-- the element list of the faces, four entries to a row, entries counted from 0
abbrev pub corner_entry : List Item → ℕ → ℕ
corner_entry x q = row_entry x (q / 4 + 1) (q % 4 + 1)

unfoldable pub element_list : List Item → List ℕ
element_list x = tab (4 * the_m x) (corner_entry x)

-- "16 first, then 1 for a count over its maximum, then 17, then 13 for a list too short"; 13 has the "needed length, 0"
unfoldable pub items_answer : List Item → ℕ → Answer
items_answer x room =
    elim (in_form x) [
      | false ↦ refused 16 (bad_line x) 0
      | true ↦ elim (counts_fit x) [
        | false ↦ refused 1 0 0
        | true ↦ check_found (unfit_face x) (refused 17 (unfit_face x) 0)
            (elim (leb (4 * the_m x) room) [ true ↦ gives (the_n x) (the_m x) | false ↦ refused 13 (4 * the_m x) 0 ])
      ]
    ]

-- what reading a text into a list answers, "returning n and m", and what it leaves in the list
unfoldable pub off_answer : List ℕ → List ℕ → Answer
off_answer t list = items_answer (items t) (length list)

unfoldable pub off_leaves : List ℕ → List ℕ → List ℕ
off_leaves t list = after (off_answer t list) (onto (element_list (items t)) list) list

-- "whose counts, edges apart, and faces are equal as numbers": of the items of two texts
pub record SameFaces (x y : List Item) : Type 0 where
  pub vertices : the_n x ≡ the_n y
  pub faces : the_m x ≡ the_m y
  pub counts : (f : ℕ) → 1 ≤ f → f ≤ the_m x → corners x f ≡ corners y f
  pub numbers : (f i : ℕ) → 1 ≤ f → f ≤ the_m x → 1 ≤ i → i ≤ corners x f → corner_number x f i ≡ corner_number y f i
