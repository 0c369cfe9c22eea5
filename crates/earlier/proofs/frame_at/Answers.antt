-- The refusals in the order of their numbers; then the walk over the first words, which are those of the first p settled entries that are not dropped.
use mathlib.Core.Path.{◌≡◌, sym, ◌∙◌}
use mathlib.Core.Bool.{true}
use mathlib.Core.List.{List}
use Prim.Native.Nat.{ℕ, ◌-◌, ◌≤◌}
use native.Mathlib.Omega.{arith}
use lib.ListN.{length}
use lib.Seq.{length-take-le}
use Rattle.runs.specs.Runs.{of_frame}
use Rattle.frame.specs.Soundness.{sound_b}
use Rattle.frame.specs.declared.Record.{Record}
use Rattle.frame.proofs.Sound.{sound}
use Rattle.earlier.proofs.Made.{earlier-unsound, earlier-no-line, earlier-dropped, earlier-no-place, earlier-many, earlier-made}
use Rattle.earlier.proofs.frame_at.Goals.{then-p-dropped-via-then-p-dropped, then-p-dropped-via-else-p-dropped+then-p-office, then-p-dropped-via-else-p-dropped+else-p-office+then-lines}
use Rattle.earlier.proofs.frame_at.Goals as goal

pub returns-then-not-sound : goal.returns-then-not-sound
returns-then-not-sound c = c.refused.ensures ∙ earlier-unsound _ _ _ _ (sym c.sound.ensures ∙ c.if-not-sound.true)

pub returns-then-not-of_frame : goal.returns-then-not-of_frame
returns-then-not-of_frame c =
    let office : Record = c.args.office in
    let log : List ℕ = c.args.log.now in
    let passed : sound_b office log ≡ true = sym c.sound.ensures ∙ c.if-not-sound.false in
    c.refused-then-not-of_frame.ensures ∙ earlier-no-line _ _ _ _ passed (sym c.of_frame.ensures ∙ c.if-not-of_frame.true)

pub returns-then-p-dropped : goal.returns-then-p-dropped
returns-then-p-dropped c =
    let office : Record = c.args.office in
    let log : List ℕ = c.args.log.now in
    let passed : sound_b office log ≡ true = sym c.sound.ensures ∙ c.if-not-sound.false in
    let lines : List ℕ = c.args.lines.now in
    let of-frame : of_frame lines ≡ true = sym c.of_frame.ensures ∙ c.if-not-of_frame.false in
    c.refused-then-p-dropped.ensures
    ∙ elim c.then-p-dropped.branch [
      | then-p-dropped-via-then-p-dropped w ↦ earlier-dropped _ _ _ _ passed of-frame w.if-p-dropped.true
      | then-p-dropped-via-else-p-dropped+then-p-office w ↦ earlier-no-place _ _ _ _ passed of-frame w.if-p-office.true
      | then-p-dropped-via-else-p-dropped+else-p-office+then-lines w ↦ earlier-many _ _ _ _ passed of-frame w.if-lines.true
    ]

pub slice_bounds-walk-end : goal.slice_bounds-walk-end
slice_bounds-walk-end c =
    let office : Record = c.args.office in
    let log : List ℕ = c.args.log.now in
    let passed : sound_b office log ≡ true = sym c.sound.ensures ∙ c.if-not-sound.false in
    let within : c.args.p - office.kept.dropped ≤ length log = let S = sound office log passed in omega (arith, c.if-p-office.false, S.room, S.most) in
    sym (length-take-le _ _ within)

pub walk-walked-requires : goal.walk-walked-requires
walk-walked-requires c =
    let lines : List ℕ = c.args.lines.now in
    let of-frame : of_frame lines ≡ true = sym c.of_frame.ensures ∙ c.if-not-of_frame.false in
    record { few = c.if-lines.false; each = of-frame }

pub returns : goal.returns
returns c =
    let office : Record = c.args.office in
    let log : List ℕ = c.args.log.now in
    let passed : sound_b office log ≡ true = sym c.sound.ensures ∙ c.if-not-sound.false in
    let lines : List ℕ = c.args.lines.now in
    let of-frame : of_frame lines ≡ true = sym c.of_frame.ensures ∙ c.if-not-of_frame.false in
    earlier-made _ _ _ _ passed of-frame c.if-p-dropped.false c.if-p-office.false c.if-lines.false _ c.walk-walked.ensures
