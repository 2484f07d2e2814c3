-- The border sides of a list with a new vertex on a side: each first part of an old one, and the second half of s where s was one.
-- Assumes nothing.
use Rattle.std.specs.Prelude.{◌≡◌, List, ℕ, ◌+◌}
use Rattle.std.proofs.Common.{ap, sym, ◌∙◌, inl, inr, arith}
use Rattle.rules.specs.Elements.{Side, origin, destination}
use Rattle.rules.specs.Pairing.{Conformal}
use Rattle.rules.specs.Tables.{partner}
use Rattle.theory.specs.Sides.{side_positive}
use Rattle.theory.specs.Triangles.{Runs}
use Rattle.theory.specs.Refining.{Cut, Refined}
use Rattle.theory.specs.Orders.{Good, lone}
use Rattle.theory.specs.RefinedSides.{along, across, cut_first, Same, Kind, out, into, same, kind}
use Rattle.theory.specs.RefinedPairs.{refined_fit, ends_old, cut_faces, refined_pairing}
use Rattle.theory.specs.RefinedTurns.{not_border, whole, halved, First, part, first_border, same_still, near_still, inward, outward, far_border}
use Rattle.theory.specs.RefinedTurns.{refined_good}

module _ {n : ℕ} {L L' : List ℕ} {s : ℕ} (old : Good n L) (meeting : Conformal L) (x : Refined n L L' s) where
  -- q is the first part of r
  abbrev pub Begins : ℕ → ℕ → Type 0
  Begins = First old meeting x

  -- it begins where r does, and is a border where r is one
  begins : {r q : ℕ} → Begins r q → Side L' q × (origin L' q ≡ origin L r)
  begins (whole k) = (k.runs.side, k.runs.from)
  begins {r} (halved c e) = let k = (x.halves r c).near.runs in rw e (k.side, k.from)

  first_still : {r q : ℕ} → partner L r ≡ 0 → Begins r q → partner L' q ≡ 0
  first_still {r} z (whole k) = same_still old meeting x r z k
  first_still {r} z (halved c e) = rw e (near_still old meeting x r z c)

  -- so each border side leaves one, other than the second half of s
  pub border_left : (r : ℕ) → Side L r → partner L r ≡ 0 → (q : ℕ) × Side L' q × (partner L' q ≡ 0) × (q ≡ x.twin s → ⊥) × Begins r q
  border_left r a z =
      let (q, k) = part old meeting x (λ r. r) r a in
      let (b, o) = begins k in
      let twin = (x.halves s (cut_first x)).far.runs.from in
      (q, b, first_still z k, (λ e. omega (arith, old.fit.to r a, o, ap (origin L') e, twin)), k)

  -- of the sides that are cut a border side is s
  cut_border : (r : ℕ) → Cut L s r → partner L r ≡ 0 → r ≡ s
  cut_border r c z = elim (cut_faces old meeting x r s c (cut_first x)) [ inl e ↦ e | inr e ↦ absurd (side_positive L s x.side (sym e ∙ z)) ]

  -- and there are no others: the two sides that halve a triangle are paired
  pub border_of : (q : ℕ) → Side L' q → partner L' q ≡ 0 → (q ≡ x.twin s → ⊥) → (r : ℕ) × Side L r × (partner L r ≡ 0) × Begins r q
  border_of q a b d = go (kind x q a)
    where
      at : {w : ℕ} → q ≡ w → partner L' w ≡ 0
      at i = sym (ap (partner L') i) ∙ b

      paired : {a b : ℕ} {w u : ℕ} → q ≡ w → Runs L' w a b → Runs L' u b a → ⊥
      paired i k l = not_border (refined_fit old.fit x) (refined_pairing old meeting x) k l (at i)

      go : Kind x q → (r : ℕ) × Side L r × (partner L r ≡ 0) × Begins r q
      go (out e (along r c i o)) = absurd (d (i ∙ ap x.twin (cut_border r c (far_border old meeting x r c (at i)))))
      go (out e (across r c i o)) = absurd (paired i (outward old meeting x r c) (inward old meeting x r c))
      go (into e (along r c i o)) = (r, c.side, first_border old meeting x c.side (halved c i) b, halved c i)
      go (into e (across r c i o)) = absurd (paired i (inward old meeting x r c) (outward old meeting x r c))
      go (same r k) = (r, k.side, first_border old meeting x k.side (whole k) b, whole k)

  -- the second half of s is one only where s is
  pub half_border : partner L' (x.twin s) ≡ 0 → partner L s ≡ 0
  half_border = far_border old meeting x s (cut_first x)

  -- a first part is that of one side alone, for a half ends at the new vertex
  no_half : {r p q : ℕ} → Same x r q → Cut L s p → q ≡ p → ⊥
  no_half {r} {p} k c e = ends_old old.fit x k (ap (λ (w : ℕ). destination L' w) e ∙ (x.halves p c).near.runs.to)

  pub begins_alone : (r p q : ℕ) → Begins r q → Begins p q → r ≡ p
  begins_alone r p q (whole k) (whole l) =
      lone n L old r p k.side l.side (sym k.runs.from ∙ l.runs.from) (sym k.runs.to ∙ l.runs.to)
  begins_alone r p q (halved c e) (halved d f) = sym e ∙ f
  begins_alone r p q (whole k) (halved d f) = absurd (no_half k d f)
  begins_alone r p q (halved c e) (whole l) = absurd (no_half l c e)

  -- and a side has one
  pub begins_once : (p q r : ℕ) → Begins r p → Begins r q → p ≡ q
  begins_once p q r (whole k) (whole l) =
      let i = k.runs in
      let j = l.runs in
      lone (n + 1) L' (refined_good old meeting x) p q i.side j.side (i.from ∙ sym j.from) (i.to ∙ sym j.to)
  begins_once p q r (halved c e) (halved d f) = e ∙ sym f
  begins_once p q r (whole k) (halved d f) = absurd (k.uncut d)
  begins_once p q r (halved c e) (whole l) = absurd (l.uncut c)
