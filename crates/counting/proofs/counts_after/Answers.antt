use borrow.Author.Rules.{rules}
use native.Mathlib.Omega.{arith}
use mathlib.Core.Path.{◌≡◌, refl, ap, ◌∙◌}
use mathlib.Core.List.{List}
use Prim.Native.Nat.{ℕ, ◌<◌}
use lib.ListN.{length}
use Rattle.protocol.specs.Counts.{count_in, count_of}
use Rattle.protocol_laws.proofs.Counts.{count-of}
use Rattle.counting.proofs.Counting.{counts-fit, counts-next, counts-done}
use Rattle.counting.proofs.counts_after.Goals.{After-in_words-more}
use Rattle.counting.proofs.counts_after.Goals as goal

pub loop-k-init : goal.loop-k-init
loop-k-init c = refl

eight : (s : After-in_words-more) → length s.args.start ≡ 8
eight s = search rules

has : (s : After-in_words-more) (k : ℕ) → k < 8 → count_of s.in_words-more.result k ≡ count_in k s.args.words.now
has s k h = ap (λ (c : List ℕ). count_of c k) s.in_words-more.ensures ∙ count-of 8 s.args.words.now k h

pub overflow_add-count : goal.overflow_add-count
overflow_add-count c =
    let l = c.loop-k in
    let a = c.args in
    omega (arith, counts-fit a.start a.words.now l.count-items l.k (eight (goal.at.overflow_add-count c).After-in_words-more) l.invariant (omega arith) _ (has (goal.at.overflow_add-count c).After-in_words-more l.k (omega arith)) c.requires)

pub loop-k-preserved : goal.loop-k-preserved
loop-k-preserved c =
    let l = c.loop-k in
    let a = c.args in
    counts-next a.start a.words.now l.count-items l.k (eight (goal.at.loop-k-preserved c).After-in_words-more) l.invariant (omega arith) _ (c.from.ensures ∙ has (goal.at.loop-k-preserved c).After-in_words-more l.k (omega arith))

pub returns : goal.returns
returns c =
    let l = c.loop-k in
    counts-done c.args.start c.args.words.now l.count-items l.k (eight (goal.at.returns c).After-in_words-more) l.invariant (omega arith)

pub in_words-more-requires : goal.in_words-more-requires
in_words-more-requires c = c.requires.0
