-- How far each log begins behind the other is `later`'s; the parts that are compared are the logs from there on.
use borrow.Author.Tests.{not-true, not-false}
use native.Mathlib.Omega.{arith}
use mathlib.Core.Bool.{true, false, not}
use mathlib.Core.List.{List}
use mathlib.Core.Path.{◌≡◌, refl, sym, ap, ap₂, ◌∙◌}
use Prim.Native.Nat.{ℕ, ◌-◌, ◌*◌, ◌≤◌}
use lib.ListN.{length, take, drop}
use Rattle.lists.specs.Tests.{pick}
use Rattle.lists.proofs.Walk.{rest_part}
use Rattle.numbers.specs.Numbers.{run_at}
use Rattle.numbers.proofs.Runs.{run_at-length, run-rest}
use Rattle.spelling.specs.Reading.{record_at}
use Rattle.protocol.specs.Beginning.{comparable}
use Rattle.shared_places.specs.FromEnd.{compares, compared_of, places_from_end}
use Rattle.shared_places.specs.declared.Compared.{Compared}
use Rattle.shared_places.proofs.FromEnd.{differ-exactly}
use Rattle.refusals.specs.declared.Refusal.TheVariants.{BeginsPast, EndsInside}
use Rattle.comparing.proofs.Checking.{by-none, by-compared, past, inside, apart, meets}
use Rattle.comparing.proofs.check.Goals.{After-compare-c}
use Rattle.comparing.proofs.check.Goals as goal

-- numbers that come to no comparison, and those that do
early : (compares 16 ≡ false) × (compares 17 ≡ false)
unfolding compares pick
early = (refl, refl)

late : (compares 10 ≡ true) × (compares 0 ≡ true)
unfolding compares pick
late = (refl, refl)

-- the parts of both logs that are lent, from the places a and b on
parts : (log rest : List ℕ) (k a b : ℕ) → b ≤ k
    → compared_of (take (length log - a) (drop a log)) (run_at 6 record_at (k - b) (take (length rest - 6 * b) (drop (6 * b) rest)))
    ≡ compared_of (drop a log) (drop b (run_at 6 record_at k rest))
parts log rest k a b h =
    ap₂ compared_of (rest_part (length log) a log refl) (ap (run_at 6 record_at (k - b)) (rest_part (length rest) (6 * b) rest refl) ∙ sym (run-rest 6 record_at k b rest h))

pub returns-then-ahead-log : goal.returns-then-ahead-log
returns-then-ahead-log c = by-none _ _ _ _ _ BeginsPast _ c.into.ensures early.0 (past _ _ _ _ (omega arith))

pub returns-then-behind-k : goal.returns-then-behind-k
returns-then-behind-k c =
    let their-long : length (run_at 6 record_at c.args.k c.args.rest.now) ≡ c.args.k = run_at-length 6 record_at c.args.k c.args.rest.now in
    by-none _ _ _ _ _ EndsInside _ c.into-then-behind-k.ensures early.1 (inside _ _ _ _ (omega arith) (omega (arith, their-long)))

-- ── what is known behind the comparison ──
abbrev own-part : After-compare-c → List ℕ
own-part c = drop (c.args.other - c.args.dropped) c.args.log.now

abbrev theirs : After-compare-c → List ℕ
theirs c = run_at 6 record_at c.args.k c.args.rest.now

abbrev their-part : After-compare-c → List ℕ
their-part c = drop (c.args.dropped - c.args.other) (theirs c)

found : (c : After-compare-c) → c.compare-c.result ≡ compared_of (own-part c) (their-part c)
found c =
    let a = c.args in
    c.compare-c.ensures
    ∙ parts a.log.now a.rest.now a.k c.later-ahead.result c.later-behind.result (omega arith)
    ∙ ap₂ (λ (i j : ℕ). compared_of (drop i a.log.now) (drop j (theirs c))) c.later-ahead.ensures c.later-behind.ensures

apart-is : (c : After-compare-c) → c.compare-c.result.differ ≡ not (comparable (own-part c) (their-part c))
apart-is c = ap (λ (x : Compared). x.differ) (found c) ∙ differ-exactly (own-part c) (their-part c)

places-are : (c : After-compare-c) → c.compare-c.result.places ≡ places_from_end (own-part c) (their-part c)
places-are c = ap (λ (x : Compared). x.places) (found c)

within : (c : After-compare-c) → c.args.dropped - c.args.other ≤ length (theirs c)
within c = let long : length (theirs c) ≡ c.args.k = run_at-length 6 record_at c.args.k c.args.rest.now in omega (arith, long)

pub returns-then-c : goal.returns-then-c
returns-then-c c =
    let at = (goal.at.returns-then-c c).After-compare-c in
    by-compared _ _ _ _ 10 _ _ late.0 (apart _ _ _ _ (omega arith) (within at) (not-true _ (sym (apart-is at) ∙ c.if-c.true))) (places-are at)

pub returns : goal.returns
returns c =
    let at = (goal.at.returns c).After-compare-c in
    by-compared _ _ _ _ 0 _ _ late.1 (meets _ _ _ _ (omega arith) (within at) (not-false _ (sym (apart-is at) ∙ c.if-c.false))) (places-are at)
