-- Each vote is that of the ballot at its place.
use Rattle.std.proofs.Common.{◌≡◌, ◌∙◌, ◌<◌, ℕ, sym, length, map, get_or, rules, arith}
use Rattle.std.specs.Prelude.{None}
use Rattle.std.proofs.lemmas.List.{ext_get_or}
use lib.ListN.{length-map}
use Rattle.lists.proofs.Tests.{get_d_map}
use Rattle.ballots.specs.Ballots.{off_end}
use Rattle.tallies.specs.Tallies.{cast}
use Rattle.votes.proofs.of_ballots.Goals as goal

pub returns : goal.returns
returns c =
    let bs = c.args.ballots in
    let eight : length bs ≡ 8 = search rules in
    let each : (i : ℕ) → i < 8 → get_or c.map.result i None ≡ cast (get_or bs i off_end) = λ i l. let called = (c.map.ensures.items.at i off_end None l).2 in search rules in
    ext_get_or None c.map.result (map cast bs) (c.map.ensures.items.long ∙ sym eight ∙ sym (length-map bs cast)) (λ i l. each i (omega (arith, l, c.map.ensures.items.long)) ∙ sym (get_d_map cast off_end bs i))
