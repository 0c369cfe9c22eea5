-- Nothing is dropped where k is 0; else what the first k words have done is kept, and the others are moved.
use native.Mathlib.Omega.{arith}
use mathlib.Core.Path.{◌≡◌, sym, ap, ◌∙◌}
use mathlib.Core.List.{◌++◌}
use Prim.Native.Nat.{ℕ}
use lib.ListN.{length, take, drop, take-append-drop}
use lib.Seq.{length-take-le}
use Rattle.kept.specs.Kept.{kept_after}
use Rattle.kept.proofs.Laws.{kept-nil}
use Rattle.kept.proofs.Moved.{moved-down}
use Rattle.kept.proofs.Kept.drop_first.Goals as goal

pub returns-then-k-eq0 : goal.returns-then-k-eq0
returns-then-k-eq0 c =
    let a = c.args in
    let words = a.log.now in
    let P = c.requires in
    let none : a.k ≡ 0 = c.if-k-eq0.true in
    let long : length (take a.held words) ≡ a.held = length-take-le a.held words P.1.1 in record {
      kept = sym (ap (λ (k : ℕ). kept_after a.self (take k words)) none ∙ kept-nil a.self);
      words = sym (ap (λ (k : ℕ). drop k (take a.held words) ++ drop (length (drop k (take a.held words))) words) none
          ∙ ap (λ (k : ℕ). take a.held words ++ drop k words) long ∙ take-append-drop a.held words);
    }

pub after-kept-requires : goal.after-kept-requires
after-kept-requires c =
    let first : length (take c.args.k c.args.log.now) ≡ c.args.k = length-take-le c.args.k c.args.log.now (omega (arith, c.requires.1.0, c.requires.1.1)) in
    rw first c.requires.0

pub slice_bounds-after-end-2 : goal.slice_bounds-after-end-2
slice_bounds-after-end-2 c =
    let first : length (take c.args.k c.args.log.now) ≡ c.args.k = length-take-le c.args.k c.args.log.now (omega (arith, c.requires.1.0, c.requires.1.1)) in
    sym first

pub returns : goal.returns
returns c = record { kept = c.after-kept.ensures; words = c.copy_within.ensures.after ∙ moved-down c.args.log.now c.args.held c.args.k c.requires.1.0 c.requires.1.1 }
