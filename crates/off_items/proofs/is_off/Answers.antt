-- `off_items::is_off` meets its contract.
-- Assumes nothing.
use Rattle.std.specs.Prelude.{◌≡◌, refl, List, [], ◌∷◌, ◌++◌, ℕ, ◌+◌, ◌-◌, length, take, drop}
use Rattle.std.proofs.Common.{sym, ap, ◌∙◌, inl, inr, arith, get_or-drop, length-drop, take_all}
use Rattle.std.proofs.lemmas.Bool.Decides.{Decides-eqb}
use Rattle.std.proofs.lemmas.Slice.Eq.{starts_is}
use Rattle.lists.specs.Search.{at}
use Rattle.lists.specs.TestLaws.{never, decide, means_eq}
use Rattle.off_items.specs.Kinds.{not_off, is_off_lem}
use Rattle.off_items.proofs.is_off.Goals as goal

abbrev off : List ℕ
off = 79 ∷ 70 ∷ 70 ∷ []

-- a list that has these bytes first
begins : (xs : List ℕ) → at xs 0 ≡ 79 → at xs 1 ≡ 70 → at xs 2 ≡ 70 → (rest : List ℕ) × (xs ≡ off ++ rest)
begins [] a b c = absurd (omega arith)
begins (x ∷ []) a b c = absurd (omega arith)
begins (x ∷ y ∷ []) a b c = absurd (omega arith)
begins (x ∷ y ∷ z ∷ rest) a b c = (rest, (cc))

-- what is left of a text from s on
left_all : (t : List ℕ) (s : ℕ) → take (length t - s) (drop s t) ≡ drop s t
left_all t s = take_all (length t - s) (drop s t) (omega (arith, length-drop s t))

-- byte j after s
byte_there : (t : List ℕ) (s j b : ℕ) {rest : List ℕ} → take (length t - s) (drop s t) ≡ off ++ rest → at (off ++ rest) j ≡ b → at t (s + j) ≡ b
byte_there t s j b e f = sym (get_or-drop s t j 0) ∙ ap (λ (w : List ℕ). at w j) (sym (left_all t s) ∙ e) ∙ f

pub returns-then-starts_with : goal.returns-then-starts_with
returns-then-starts_with c =
    let t = c.args.text.now in
    let s = c.args.s in
    let e = (starts_is Decides-eqb _ off c.starts_with.result c.starts_with.ensures.value).0 c.if-starts_with.true in
    let z : s + 0 ≡ s = omega arith in
    c.is_end.ensures ∙ is_off_lem t c.requires (ap (at t) (sym z) ∙ byte_there t s 0 79 e refl) (byte_there t s 1 70 e refl) (byte_there t s 2 70 e refl)

pub returns-else-starts_with : goal.returns-else-starts_with
returns-else-starts_with c =
    let t = c.args.text.now in
    let s = c.args.s in
    let z : s + 0 ≡ s = omega arith in
    c.if-starts_with.false ∙ elim (decide (means_eq (at t s) 79)) [
      | inr d ↦ not_off t c.requires 0 79 (omega arith) refl (sym z) d
      | inl a ↦ elim (decide (means_eq (at t (s + 1)) 70)) [
        | inr d ↦ not_off t c.requires 1 70 (omega arith) refl refl d
        | inl b ↦ elim (decide (means_eq (at t (s + 2)) 70)) [
          | inr d ↦ not_off t c.requires 2 70 (omega arith) refl refl d
          | inl f ↦
              let x = begins (drop s t) (get_or-drop s t 0 0 ∙ ap (at t) z ∙ a) (get_or-drop s t 1 0 ∙ b) (get_or-drop s t 2 0 ∙ f) in
              never ((starts_is Decides-eqb _ off c.starts_with.result c.starts_with.ensures.value).1 x.0 (left_all t s ∙ x.1)) c.if-starts_with.false
        ]
      ]
    ]
