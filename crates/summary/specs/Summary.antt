-- What the entries of a settled log have done: a fold from a start, entry by entry. Assumes nothing.
use Rattle.std.specs.Prelude.{Bool, List, ℕ}
use Rattle.lists.specs.Tests.{both, same}
use Rattle.protocol.specs.Codes.{no_codes, coded, codes_after}
use Rattle.protocol.specs.Moves.{move, weights_after}
use Rattle.summary.specs.declared.Summary.{Summary}

-- the start of a frame with these founding weights: no entry has done anything
abbrev pub start_with : List ℕ → Summary
start_with founding = record { present = founding; codes = no_codes }

-- after the entries of a log
abbrev pub summary_after : Summary → List ℕ → Summary
summary_after s log = record { present = weights_after s.present log; codes = codes_after s.codes log }

-- after one entry
abbrev pub summary_next : Summary → ℕ → Summary
summary_next s e = record { present = move s.present e; codes = coded s.codes e }

unfoldable pub same_summary : Summary → Summary → Bool
same_summary a b = both (same a.present b.present) (same a.codes b.codes)
