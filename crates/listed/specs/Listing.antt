-- Document 01, "The listing program": what it prints for a text.
-- Assumes nothing.
use Rattle.std.specs.Prelude.{true, false, List, ℕ, eqb}
use Rattle.rules.specs.Tables.{v2e, columns, e2e, b2e}
use Rattle.rules.specs.Refusals.{Answer, gives, refused, list_answer}
use Rattle.text.specs.Form.{first_bad, the_n, the_list}
use Rattle.print.specs.Lines.{table_lines, refusal_line}

-- "It prints V with the V2e entries, one E line for each element, B with the B2e entries"; "A refusal prints R, number, and the two
-- place numbers"
unfoldable pub answer_lines : ℕ → List ℕ → Answer → List ℕ
answer_lines n L (gives k e) = table_lines (columns L) (v2e n L) (e2e L) (b2e L)
answer_lines n L (refused r a b) = refusal_line r a b

-- build's answer, of which only refusals 3 to 8 can come here (`Fit`, `fit_answer`)
unfoldable pub mesh_lines : ℕ → List ℕ → List ℕ
mesh_lines n L = answer_lines n L (list_answer n L)

-- 14: "text input not in form"; "first bad line, 0"; "nothing printed but the R line"
unfoldable pub listing : List ℕ → List ℕ
listing t = elim (eqb (first_bad t) 0) [ true ↦ mesh_lines (the_n t) (the_list t) | false ↦ refusal_line 14 (first_bad t) 0 ]
