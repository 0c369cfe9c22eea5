-- A founding with a log of one word is refused, and answers the all-zero record.
use mathlib.Core.Path.{◌≡◌, refl, ap, ◌∙◌}
use mathlib.Core.List.{[], ◌∷◌}
use lib.ListN.{replicate}
use Rattle.lists.specs.Tests.{pick}
use Rattle.protocol.specs.Limits.{long_enough}
use Rattle.frame.specs.State.{zero_record}
use Rattle.frame.specs.Founding.{found_of}
use Rattle.frame.specs.declared.Record.{Record}
use Rattle.frame.specs.declared.founding.Founded.{Founded}
use Rattle.rehearsal_offices.proofs.founding.no_offices.Goals as goal

refused : (found_of 0 0 (replicate 8 0) (0 ∷ [])).«record» ≡ zero_record
unfolding found_of long_enough pick
refused = refl

pub returns : goal.returns
returns c =
    let zero = ap (λ (f : Founded). f.«record») c.found-refused.ensures ∙ refused in
    ap (λ (x : Record). record { count = 0; records = replicate 8 x; lengths = replicate 4 0 }) zero
