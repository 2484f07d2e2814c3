-- A call with a work buffer: refused by check 1 or 2, with everything as it was; or what its later checks say, with the work buffer cleared.
-- Assumes nothing.
use Rattle.std.specs.Prelude.{◌≡◌, Bool, true, false, List, ℕ, ◌+◌, ◌*◌, ◌≤◌, T, leb, eqb, length, replicate}
use Rattle.std.proofs.Math.Path.{refl}
use Rattle.std.proofs.Common.{sym, ◌∙◌, arith}
use Rattle.lists.specs.Tests.{both}
use Rattle.lists.specs.TestLaws.{true_of, passes, means_eq, means_le}
use Rattle.rules.specs.Refusals.{Answer, gives, refused, call_lengths, length_checks, work_after}
use Rattle.theory.specs.Answers.{past_lengths}

-- what check 2 says of it
pub lengths_known : (n m : ℕ) (others : Bool) (V2e work : List ℕ) → call_lengths n m others V2e work ≡ true
    → (length V2e ≡ n) × T others × (n + 16 * m ≤ length work)
unfolding call_lengths
lengths_known n m others V2e work e =
    let (a, t) = passes (eqb (length V2e) n) (both others (leb (n + 16 * m) (length work))) (rw e tt) in
    let (b, c) = passes others (leb (n + 16 * m) (length work)) t in
    ((means_eq (length V2e) n).says a, b, (means_le (n + 16 * m) (length work)).says c)

-- `leaves` is what the buffers hold by its answer and by what the work holds
module _ {B : Type 0} (leaves : Answer → List ℕ → B) (sizes lengths : Bool) (rest : Answer) (work : List ℕ) where
  -- what is promised of the answer, and of what is left
  abbrev pub Whole : Answer → B → Type 0
  Whole a left = (a ≡ length_checks sizes lengths rest) × (left ≡ leaves (length_checks sizes lengths rest) (work_after sizes lengths work))

  whole : {a x : Answer} {work' : List ℕ} → a ≡ x → length_checks sizes lengths rest ≡ x → work_after sizes lengths work ≡ work' →
      Whole a (leaves x work')
  whole e f g = (e ∙ sym f, λ i. leaves (sym f i) (sym g i))

  pub unsized : {a : Answer} → sizes ≡ false → a ≡ refused 1 0 0 → Whole a (leaves (refused 1 0 0) work)
  unfolding length_checks work_after
  unsized s e = whole e (rw (s, length_checks)) (rw (s, work_after))

  pub unlengthened : {a : Answer} → sizes ≡ true → lengths ≡ false → a ≡ refused 2 0 0 → Whole a (leaves (refused 2 0 0) work)
  unfolding length_checks work_after
  unlengthened s l e = whole e (rw (s, l, length_checks)) (rw (s, l, work_after))

  pub cleared : {a : Answer} {work' : List ℕ} → (sizes ≡ true) × (lengths ≡ true) → a ≡ rest → work' ≡ replicate (length work) 0 →
      Whole a (leaves a work')
  unfolding length_checks work_after
  cleared (s, l) e z = whole refl (rw (s, l, length_checks) (sym e)) (rw (s, l, work_after) (sym z))

-- a call that makes the checks of a query first, and then `long` of its work buffer
early : (sizes query long : Bool) (rest : Answer) (work : List ℕ) (r : ℕ) → ((x : Answer) → length_checks sizes query x ≡ refused r 0 0) →
    (length_checks sizes (both query long) rest ≡ refused r 0 0) × (work_after sizes (both query long) work ≡ work)
unfolding length_checks work_after
early true true long rest work r f = let e = f (gives 0 0) in let z : ◌≡◌ {A = ℕ} 0 1 = cc in absurd (omega arith)
early true false long rest work r f = (f rest, refl)
early false query long rest work r f = (f rest, refl)

pub unadmitted : {B : Type 0} (leaves : Answer → List ℕ → B) (sizes query long : Bool) (rest : Answer) (work : List ℕ) {a : Answer} (r : ℕ) →
    ((x : Answer) → length_checks sizes query x ≡ refused r 0 0) → a ≡ refused r 0 0
    → Whole leaves sizes (both query long) rest work a (leaves (refused r 0 0) work)
unadmitted leaves sizes query long rest work r f e =
    let (p, q) = early sizes query long rest work r f in whole leaves sizes (both query long) rest work e p q

pub admitted : (sizes query : Bool) → ((x : Answer) → length_checks sizes query x ≡ x) → (sizes ≡ true) × (query ≡ true)
admitted sizes query f =
    let (s, q, e) = past_lengths sizes query (gives 0 0) 0 0 (f (gives 0 0)) in (true_of sizes s, true_of query q)
