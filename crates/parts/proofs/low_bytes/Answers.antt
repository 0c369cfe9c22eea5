-- The chain asks each of the eight bytes.
use Rattle.std.proofs.Common.{rules, tests, ℕ, ◌∙◌}
use mathlib.Core.Path.{ap}
use lib.Dec.{ltb}
use Rattle.std.specs.List.{list_all}
use Rattle.std.proofs.lemmas.Iterator.{YieldsList-from_slice}
use Rattle.std.proofs.lemmas.Iterator.Search.{all_from_yields_List}
use Rattle.parts.proofs.Bytes.{low-all}
use Rattle.parts.proofs.low_bytes.Goals as goal

pub returns : goal.returns
returns c =
    all_from_yields_List (λ (b : ℕ). ltb b 128) _ _ _ c.all.ensures.ran (YieldsList-from_slice c.to_le_bytes.result (cc)) (λ x b q k. search (rules, tests))
    ∙ ap (list_all (λ (b : ℕ). ltb b 128)) c.to_le_bytes.ensures ∙ low-all c.args.bytes
