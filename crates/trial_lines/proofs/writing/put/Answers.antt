-- Where they have room they end within the list, and behind the last turn the part that was lent is what is written.
use Rattle.std.proofs.Common.{◌≡◌, ℕ, ◌-◌, ◌%◌, ◌<◌, ◌≤◌, List, ◌++◌, length, get_or, take, drop, refl, ap, ◌∙◌, mod-lt, length-drop, length-take-le, drop-drop, arith, rules}
use Rattle.trial_lines.proofs.Putting.{put_none, put_next, put-all, room-full}
use Rattle.trial_lines.proofs.writing.put.Goals as goal

pub returns-in_err-end : goal.returns-in_err-end
returns-in_err-end g c = let e = c.in_err-end.ensures in (c.from_residual.ensures ∙ e, put_none g.T.LowPart.low _ _ _ _ _ e)

pub offset_bounds-to-at : goal.offset_bounds-to-at
offset_bounds-to-at g c =
    let full = room-full _ _ _ _ _ c.in_ok-end.ensures in
    let within : c.args.at ≤ length c.args.to.now = omega (arith, full.is.1) in
    search rules

pub slice_bounds-x-items-count : goal.slice_bounds-x-items-count
slice_bounds-x-items-count g c = omega (arith, (room-full _ _ _ _ _ c.in_ok-end.ensures).ends)

pub slice_bounds-x-items-start : goal.slice_bounds-x-items-start
slice_bounds-x-items-start g c = omega (arith, (room-full _ _ _ _ _ c.in_ok-end.ensures).ends)

pub slice_bounds-x-items-end : goal.slice_bounds-x-items-end
slice_bounds-x-items-end g c = let full = room-full _ _ _ _ _ c.in_ok-end.ensures in omega (arith, full.ends, full.is.1)

pub loop-i-init : goal.loop-i-init
loop-i-init g c = refl

-- what the line says is not empty, and a remainder by its length is a place in it
module _ (s t : List ℕ) (e : s ≡ t) (some : 0 < length t) where
  any : 0 < length s
  any = rw e some

  inside : (i : ℕ) → i % length s < length s
  inside i = mod-lt i any

pub nonzero_rem-place : goal.nonzero_rem-place
nonzero_rem-place g c = any _ _ c.said-said.ensures (room-full _ _ _ _ _ c.in_ok-end.ensures).is.0

pub bounds-said-place : goal.bounds-said-place
bounds-said-place g c = let within = inside _ _ c.said-said.ensures (room-full _ _ _ _ _ c.in_ok-end.ensures).is.0 c.loop-i.i in search rules

pub offset_bounds-said-place : goal.offset_bounds-said-place
offset_bounds-said-place g c = let within = inside _ _ c.said-said.ensures (room-full _ _ _ _ _ c.in_ok-end.ensures).is.0 c.loop-i.i in search rules

-- the part that is lent is as long as what is written
part-long : {A : Type 0} (to : List A) (at end : ℕ) → end ≤ length to → length (take (end - at) (drop at to)) ≡ end - at
part-long to at end h = length-take-le (end - at) (drop at to) (omega (arith, length-drop at to))

pub loop-i-preserved : goal.loop-i-preserved
loop-i-preserved g c =
    let a = c.args in
    let low = g.T.LowPart.low in
    let full = room-full _ _ _ _ _ c.in_ok-end.ensures in
    let long = part-long a.to.now a.at c.in_ok-end.end (omega (arith, full.ends, full.is.1)) in
    put_next low a.line a.from a.times a.at a.to.now c.in_ok-end.end full _ _ c.loop-i.i c.loop-i.invariant long c.loop-i-test.true c.low_part.result
    (c.low_part.ensures ∙ ap (λ (s : List ℕ). low (get_or s (c.loop-i.i % length s) 0)) c.said-said.ensures)

pub returns : goal.returns
returns g c =
    let a = c.args in
    let end = c.in_ok-end.end in
    let full = room-full _ _ _ _ _ c.in_ok-end.ensures in
    let long = part-long a.to.now a.at end (omega (arith, full.ends, full.is.1)) in
    let behind = drop-drop (end - a.at) a.at a.to.now ∙ ap (λ (k : ℕ). drop k a.to.now) (omega (arith, full.ends)) in (
      c.in_ok-end.ensures,
      ap (λ l. take a.at a.to.now ++ (c.loop-i.x-items ++ l)) behind ∙
          put-all g.T.LowPart.low a.line a.from a.times a.at a.to.now end full _ _ c.loop-i.i c.loop-i.invariant long c.loop-i-test.false,
    )
