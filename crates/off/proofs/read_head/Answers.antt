-- `off::read_head` meets its contract.
-- Assumes nothing.
use Rattle.std.specs.Prelude.{◌≡◌, Err}
use Rattle.std.proofs.Common.{rules, arith}
use Rattle.off.specs.Heads.{word_read, word_bad, counts_bad, counts_read, n_read, m_read}
use Rattle.off.proofs.read_head.Goals as goal

pub returns-in_err-word-clause-bad : goal.returns-in_err-word-clause-bad
returns-in_err-word-clause-bad c =
    let e : c.from_residual.result ≡ Err c.in_err-word.field-0.0 = search rules in rw e (word_bad c.args.text.now c.in_err-word.ensures)

pub returns-in_err-n-clause-bad : goal.returns-in_err-n-clause-bad
returns-in_err-n-clause-bad c =
    let e : c.from_residual-in_err-n.result ≡ Err c.in_err-n.field-0.0 = search rules in
    rw e (counts_bad (word_read c.args.text.now c.in_ok-word.ensures) (omega arith) (omega arith) c.in_err-n.ensures)

pub returns-in_err-m-clause-bad : goal.returns-in_err-m-clause-bad
returns-in_err-m-clause-bad c =
    let e : c.from_residual-in_err-m.result ≡ Err c.in_err-m.field-0.0 = search rules in
    let two = counts_read (word_read c.args.text.now c.in_ok-word.ensures) (omega arith) (omega arith) c.in_ok-n.ensures in
    rw e (counts_bad two (omega arith) (omega arith) c.in_err-m.ensures)

pub returns-in_err-edges-clause-bad : goal.returns-in_err-edges-clause-bad
returns-in_err-edges-clause-bad c =
    let e : c.from_residual-in_err-edges.result ≡ Err c.in_err-edges.field-0.0 = search rules in
    let two = counts_read (word_read c.args.text.now c.in_ok-word.ensures) (omega arith) (omega arith) c.in_ok-n.ensures in
    let three = counts_read two (omega arith) (omega arith) c.in_ok-m.ensures in
    rw e (counts_bad three (omega arith) (omega arith) c.in_err-edges.ensures)

pub returns-clause-good : goal.returns-clause-good
returns-clause-good c =
    let t = c.args.text.now in
    let one = word_read t c.in_ok-word.ensures in
    let two = counts_read one (omega arith) (omega arith) c.in_ok-n.ensures in
    let three = counts_read two (omega arith) (omega arith) c.in_ok-m.ensures in
    record {
      read = counts_read three (omega arith) (omega arith) c.in_ok-edges.ensures;
      n = n_read one c.in_ok-n.ensures;
      m = m_read two c.in_ok-m.ensures;
    }
