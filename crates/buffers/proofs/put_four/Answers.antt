-- `buffers::put_four` meets its contract: the part from q on is the row, and the rest stays.
-- Assumes nothing.
use borrow.Author.Rules.{rules}
use borrow.Rule.Slice.PartMut.{put_mid}
use Rattle.std.proofs.Common.{◌≡◌, List, ◌++◌, ℕ, ◌+◌, ◌-◌, ◌≤◌, length, take, drop, ap, sym, ◌∙◌, append_assoc, arith}
use Rattle.std.proofs.lemmas.List.{drop-drop}
use Rattle.std.proofs.lemmas.List.Edits.{sets, sets-eq}
use Rattle.buffers.proofs.put_four.Goals as goal

four_over : (row written L : List ℕ) (q : ℕ) → length row ≡ 4 → q + 4 ≤ length L → written ≡ row → put_mid q (q + 4 - q) L written ≡ sets L q row
four_over row written L q four inside e =
    let long : q + 4 - q ≡ 4 = omega arith in
    let rest : drop 4 (drop q L) ≡ drop (q + length row) L = rw four (drop-drop 4 q L) in
    rw (e, long)
    (ap (λ (r : List ℕ). take q L ++ (row ++ r)) rest
    ∙ sym (append_assoc (take q L) row (drop (q + length row) L))
    ∙ sym (sets-eq row L q (omega arith)))

pub returns : goal.returns
returns c =
    let four : length c.args.four ≡ 4 = search rules in
    four_over c.args.four c.copy_from_slice.new.self c.args.out.now c.args.q four c.requires c.copy_from_slice.ensures.after
