-- The rules of OFF texts give every row of their table of cases (specs/Cases).
-- Assumes nothing.
use Rattle.std.specs.Prelude.{T}
use Rattle.lists.specs.Tests.{same}
use Rattle.lists.specs.Search.{least, tab}
use Rattle.print.specs.Cases.{bytes}
use Rattle.digits.specs.Digits.{value}
use Rattle.rules.specs.Elements.{first_number}
use Rattle.rules.specs.Refusals.{check_found, after, onto}
use Rattle.rules.specs.Cases.{tri, quad, same_answer, every}
use Rattle.off_rules.specs.Off.{bare, closed, line_after, parted, items, item, is_off, first_from, is_whole, number_of, past_sign, past_fraction, is_decimal}
use Rattle.off_rules.specs.Off.{the_n, the_m, face_item, is_good, bad_item, bad_line, unfit_face, row_entry, element_list, items_answer, off_answer, off_leaves}
use Rattle.off_rules.specs.Cases.{outcome, holds, rows, cases}

pub cases_hold : T (every holds cases)
unfolding bytes tri quad same_answer outcome holds every rows cases same least tab value first_number check_found after onto
    bare closed line_after parted items item is_off first_from is_whole number_of past_sign past_fraction is_decimal the_n the_m face_item is_good bad_item
    bad_line unfit_face row_entry element_list items_answer off_answer off_leaves
cases_hold = tt
