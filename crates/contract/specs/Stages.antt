-- A contraction on its way: what is known before 11, 15 and 20 are tried, after them, once the new list is tried, and in the end.
-- Assumes nothing.
use Rattle.std.specs.Prelude.{◌≡◌, true, false, ◌⊎◌, List, [], ◌∷◌, ◌++◌, ℕ, ◌+◌, ◌*◌, ◌-◌, ◌≤◌, Float, length, take, replicate}
use Rattle.lists.specs.Search.{at}
use Rattle.rules.specs.Elements.{max_vertex, max_element, elements, slot, destination}
use Rattle.rules.specs.Pairing.{Accepted}
use Rattle.rules.specs.Tables.{borders, columns, wide, b2e, e2e, v2e}
use Rattle.rules.specs.Refusals.{Answer, gives, refused, after, onto}
use Rattle.edit_rules.specs.Edits.{refuses, Lent, is_there, held, new_answer, over_old}
use Rattle.edit_rules.specs.Split.{is_splittable}
use Rattle.edit_rules.specs.Contract.{pinches, contracted, contract, without_point}
use Rattle.edits.specs.Leaving.{Left}
use Rattle.edits.specs.Trying.{Tabled}
use Rattle.edits.specs.Pointed as pointed

-- the old list was accepted, with k border half-edges, and its tables stand in the work buffer
pub record Admissible (n k : ℕ) (L work : List ℕ) : Type 0 where
  pub accepted : Accepted n L
  pub number : k ≡ borders L
  pub tabled : Tabled n L work

-- 11, 15 and 20 find nothing, and t is the entry of s in E2e
pub record Contractible (n : ℕ) (L : List ℕ) (s t : ℕ) : Type 0 where
  pub accepted : Accepted n L
  pub there : is_there L s ≡ true
  pub fit : is_splittable L s ≡ true
  pub free : pinches n L s ≡ false
  pub entry : t ≡ at (wide L) (slot s)

-- what 11, 15 and 20 say
pub data Admitted (n : ℕ) (L : List ℕ) (s : ℕ) (a : Answer) : Type 0 where
  denied : {r : ℕ} → a ≡ refused r 0 0 → contract n L s ≡ refuses r → Admitted n L s a
  allowed : {t : ℕ} → a ≡ gives t 0 → Contractible n L s t → Admitted n L s a

-- xs, and 0 up to the old length
abbrev pub padded : ℕ → List ℕ → List ℕ
padded old xs = xs ++ replicate (old - length xs) 0

-- the buffers have room for the tables of L, in c columns
pub record Roomy (n c : ℕ) (L V2e E2e : List ℕ) : Type 0 where
  pub columned : c ≡ columns L
  pub vertices : n ≤ length V2e
  pub opposites : c * elements L ≤ length E2e

-- the new list was tried: its tables stand at the starts of the buffers, or these are as they were
pub record Tried (n : ℕ) (L : List ℕ) (s : ℕ) (a : Answer) (V2e E2e B2e V2e' E2e' B2e' : List ℕ) : Type 0 where
  pub answer : a ≡ new_answer (length B2e) (contract n L s)
  pub vertices : V2e' ≡ after a (onto (v2e (n - 1) (contracted n L s)) V2e) V2e
  pub opposites : E2e' ≡ after a (onto (e2e (contracted n L s)) E2e) E2e
  pub border : B2e' ≡ after a (onto (b2e (contracted n L s)) B2e) B2e

-- it stands in place of the old one, unless it was refused
pub record Replaced (n : ℕ) (L : List ℕ) (s : ℕ) (a : Answer) (L₁ : List ℕ) : Type 0 where
  pub long : length L₁ ≡ length L
  pub list : {i j : ℕ} → a ≡ gives i j → L₁ ≡ padded (length L) (contracted n L s)

-- nothing refuses yet, and all buffers, in c columns, have room
pub record ToWrite (w : Lent) (P : List Float) (s t c : ℕ) : Type 0 where
  pub contractible : Contractible w.n (held w) s t
  pub list : 4 * w.m ≤ length w.list
  pub columned : c ≡ columns (held w)
  pub vertices : w.n ≤ length w.vertices
  pub opposites : c * w.m ≤ length w.opposites
  pub room : w.n + 16 * w.m ≤ length w.work
  pub points : 3 * w.n ≤ length P

-- vertex b is to go, and m' of m elements stay
pub record Closable (n m m' c b : ℕ) (V2e E2e : List ℕ) (P : List Float) : Type 0 where
  pub some : 1 ≤ n
  pub vertices : n ≤ max_vertex
  pub size : m ≤ max_element
  pub fewer : m' ≤ m
  pub columned : (c ≡ 3) ⊎ (c ≡ 4)
  pub v2e_long : n ≤ length V2e
  pub e2e_long : c * m ≤ length E2e
  pub points : 3 * n ≤ length P
  pub from : 1 ≤ b
  pub to : b ≤ n

-- from n and m on to the new ones, m' for m: the entries past them are 0, and vertex b has gone
pub record Closed (n m m' c b : ℕ) (V2e E2e : List ℕ) (P : List Float) (size' V2e' E2e' : List ℕ) (P' : List Float) : Type 0 where
  pub size : size' ≡ (n - 1) ∷ m' ∷ []
  pub vertices : V2e' ≡ over_old n (take (n - 1) V2e) V2e
  pub opposites : E2e' ≡ over_old (c * m) (take (c * m') E2e) E2e
  pub points : P' ≡ without_point n b P

-- the points once the edge is contracted
abbrev pub closed : Lent → List Float → ℕ → List Float
closed w P s = without_point w.n (destination (held w) s) P

-- what is left where 11, 15 and 20 find nothing; the work apart
pub record Written (w : Lent) (P : List Float) (s : ℕ) (a : Answer) (w' : Lent) (P' : List Float) : Type 0 where
  pub left : Left (new_answer (length w.border) (contract w.n (held w) s)) a w (contract w.n (held w) s) w'
  pub points : P' ≡ after a (closed w P s) P

-- what follows checks 1 and 2 leaves; the work apart
abbrev pub Outcome : Lent → List Float → ℕ → Answer → Lent → List Float → Type 0
Outcome w P s = pointed.Outcome w P (contract w.n (held w) s) (closed w P s)
