use mathlib.Core.Path.{◌≡◌, ◌∙◌}
use native.Mathlib.Omega.{arith}
use lib.ListN.{length, take}
use borrow.Author.Rules.{rules}
use Rattle.std.proofs.lemmas.List.{length-take}
use Rattle.ballots.specs.Ballots.{off_end}
use Rattle.writer.proofs.Ballots.{len-within}
use Rattle.writer.proofs.Whole.{refused, written}
use Rattle.vectors.proofs.Vectors.{all-length, all-size, base-counts, base-few, base-long, kept-long, path-counts, path-long, row-few, whole, write_again, write-begins, write-ends, write-room}
use Rattle.vectors.proofs.Versions.write.Goals as goal

pub returns-then-out-size : goal.returns-then-out-size
returns-then-out-size c =
    let m = c.args.self.now in
    let full : length c.args.self.now.start ≡ 8 = search rules in
    refused _ _ _ (all-size c.requires full) c.if-out-size.true

pub overflow_mul-row : goal.overflow_mul-row
overflow_mul-row c = omega (arith, c.requires.most)

pub overflow_mul-size : goal.overflow_mul-size
overflow_mul-size c = omega (arith, row-few c.args.self.now.n c.requires.most)

pub overflow_add-size : goal.overflow_add-size
overflow_add-size c = omega (arith, row-few c.args.self.now.n c.requires.most, c.requires.most)

pub counts_after-base-requires : goal.counts_after-base-requires
counts_after-base-requires c = (omega (arith, c.requires.few), λ k. omega (arith, c.requires.few, c.requires.kept k))

pub put_run-p-requires : goal.put_run-p-requires
put_run-p-requires c =
    let m = c.args.self.now in
    rw (length-take m.n _) (omega (arith, row-few m.n c.requires.most, c.if-out-size.false))

pub loop-b-init : goal.loop-b-init
loop-b-init c = write-begins _ _ _ _ _

pub path_counts-counts-requires : goal.path_counts-counts-requires
path_counts-counts-requires c =
    let m = c.args.self.now in
    let full : length c.args.self.now.start ≡ 8 = search rules in
    (len-within m.n m.ballots.now _ off_end c.requires.shapes c.loop-b-test.true, base-few c.requires full c.counts_after-base.ensures)

pub put_run-p-requires-in-loop-b : goal.put_run-p-requires-in-loop-b
put_run-p-requires-in-loop-b c =
    let m = c.args.self.now in
    let full : length c.args.self.now.start ≡ 8 = search rules in
    let counts = c.counts_after-base.ensures in
    let base = base-long c.requires full counts in
    let put = c.put_run-p in
    rw (length-take m.n _) (omega (
      arith,
      write-room m.n (take m.n c.counts_after-base.result) m.ballots.now c.loop-b.b-index c.loop-b.invariant base c.requires.offices c.loop-b-test.true
          (omega (arith, put.auto.out, put.ensures.0, base, all-size c.requires full, all-length c.requires full counts, c.if-out-size.false)),
    ))

pub loop-b-preserved : goal.loop-b-preserved
loop-b-preserved c =
    let m = c.args.self.now in
    let full : length c.args.self.now.start ≡ 8 = search rules in
    let counts = c.counts_after-base.ensures in
    let put = c.put_run-p-in-loop-b in
    write_again m.n (take m.n c.counts_after-base.result) m.ballots.now c.loop-b.b-index c.loop-b.invariant (base-long c.requires full counts) c.requires.offices c.loop-b-test.true
    (take m.n c.path_counts-counts.result) (path-counts c.requires full counts _ c.path_counts-counts.ensures) put.ensures.0 put.ensures.1

pub returns : goal.returns
returns c =
    let m = c.args.self.now in
    let full : length c.args.self.now.start ≡ 8 = search rules in
    let counts = c.counts_after-base.ensures in
    let base = base-long c.requires full counts in
    let put = c.put_run-p in
    let fits = c.if-out-size.false in
    let size = all-size c.requires full in
    let w = written _ c.args.out.now _ size (omega (arith, fits)) in (
      w.0,
      whole m.n (take m.n m.start) (kept-long c.requires full) m.log.now m.ballots.now (take m.n c.counts_after-base.result) (base-counts c.requires full counts)
          c.args.out.now put.new.out c.loop-b.out put.result (omega (arith, put.ensures.0, base)) put.ensures.1
          (write-ends m.n (take m.n c.counts_after-base.result) m.ballots.now c.loop-b.b-index c.loop-b.invariant base c.requires.offices c.loop-b-test.false) (omega (arith, size, fits)) ∙ w.1,
    )
