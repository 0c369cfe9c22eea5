use borrow.Author.Rules.{rules}
use mathlib.Core.Path.{◌≡◌, ap, ◌∙◌}
use mathlib.Core.List.{List}
use Prim.Native.Nat.{ℕ}
use lib.ListN.{length, take, set, replicate}
use lib.Seq.{sets, take_at}
use Rattle.numbers.specs.Numbers.{be64}
use Rattle.numbers.proofs.Runs.{run_at-length}
use Rattle.ballots.specs.Ballots.{off_end}
use Rattle.writer.proofs.Ballots.{len-within}
use Rattle.vectors.specs.Vectors.{versions_in}
use Rattle.vectors.proofs.Vectors.{base-counts, base-few, path-counts, tails_in}
use Rattle.versions.specs.Versions.{answers_to, compared_to, counts_in, nine}
use Rattle.versions.proofs.Paths.{answer-again, answer-ends, nine-answers}
use Rattle.versions.proofs.answers.Goals as goal

pub path_counts-counts-requires : goal.path_counts-counts-requires
path_counts-counts-requires c =
    let of = c.args.of.now in
    let full : length c.args.of.now.start ≡ 8 = search rules in
    let counts = c.counts_after-base.ensures in
    (len-within of.n of.ballots.now _ off_end c.requires.0.shapes c.loop-o-test.true, base-few c.requires.0 full counts)

pub loop-o-preserved : goal.loop-o-preserved
loop-o-preserved c =
    let of = c.args.of.now in
    let full : length c.args.of.now.start ≡ 8 = search rules in
    let counts = c.counts_after-base.ensures in
    answer-again c.loop-o.invariant c.requires.0.offices c.loop-o-test.true c.number-in-loop-o.result
    (c.number-in-loop-o.ensures ∙ c.compared-in-loop-o.ensures
    ∙ ap (λ (v : List ℕ). compared_to v (take of.n c.counts_in-given.result)) (path-counts c.requires.0 full counts _ c.path_counts-counts.ensures))

pub returns : goal.returns
returns c =
    let of = c.args.of.now in
    let full : length c.args.of.now.start ≡ 8 = search rules in
    let counts = c.counts_after-base.ensures in
    let s = c.args.s.now in
    let given : take c.args.of.now.n c.counts_in-given.result ≡ counts_in c.args.of.now.n c.args.s.now = ap (take of.n) c.counts_in-given.ensures ∙ take_at (counts_in of.n s) _ of.n (run_at-length 8 be64 of.n s) in
    let v = take of.n c.counts_in-given.result in
    let kept = take of.n of.start in
    answer-ends c.loop-o.invariant c.requires.0.offices c.loop-o-test.false
    ∙ ap (λ (x : ℕ). sets (set (replicate 9 x) 0 c.number.result) 1 (answers_to (take of.n c.counts_after-base.result) v (tails_in of.n of.ballots.now))) c.number-answers.ensures
    ∙ nine-answers of.n c.requires.0.most kept v of.log.now of.ballots.now c.requires.0.offices (take of.n c.counts_after-base.result)
    (base-counts c.requires.0 full counts) c.number.result (c.number.ensures ∙ c.compared.ensures)
    ∙ ap (λ (w : List ℕ). nine (answers_to kept w (versions_in of.n of.log.now of.ballots.now))) given
