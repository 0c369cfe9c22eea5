-- Each turn takes the bounds that stand at the place after those that the walk has yielded.
use Rattle.std.proofs.Common.{◌≡◌, ◌∙◌, [], ◌∷◌, sym, refl, length, take, rules, arith, length-append}
use lib.Seq.{length-take-le}
use Rattle.std.proofs.lemmas.Slice.Zip.{zip_turn, zip_end}
use Rattle.bounds.proofs.Walks.{fit_next, fit-stop, fit-done}
use Rattle.bounds.proofs.Bounds.fit.Goals as goal
use Rattle.bounds.proofs.Bounds.fit.Goals.{At-loop-low}

-- there are n of both bounds
both-n : (c : At-loop-low) → let a = c.args in (length (take a.n a.self.now.lowest) ≡ a.n) × (length (take a.n a.self.now.highest) ≡ a.n)
both-n c =
    let a = c.args in
    let few = c.requires in
    let l : length a.self.now.lowest ≡ 8 = search rules in
    let h : length a.self.now.highest ≡ 8 = search rules in
    (length-take-le a.n a.self.now.lowest (omega arith), length-take-le a.n a.self.now.highest (omega arith))

pub loop-low-init : goal.loop-low-init
loop-low-init c = refl

pub returns-then-low-high : goal.returns-then-low-high
returns-then-low-high c =
    let a = c.args in
    let lo = take a.n a.self.now.lowest in
    let hi = take a.n a.self.now.highest in
    let l = c.loop-low in
    let n = both-n (goal.at.returns-then-low-high c).At-loop-low in
    let t = zip_turn lo hi l.yielded c.into_iter-low-iterator.result l.low-iterator c.next.new.self c.next.result (search rules) (search rules) l.yielded_by (c.in-Some.low, c.in-Some.high) c.in-Some.is c.next.ensures.steps in
    let t2 = t.2 0 in
    let t3 = t.3 0 in
    fit-stop lo hi (n.0 ∙ sym n.1) _ (length l.yielded) l.invariant t.0 (omega (arith, t2, t3, c.if-low-high.true))

pub loop-low-preserved : goal.loop-low-preserved
loop-low-preserved c =
    let a = c.args in
    let lo = take a.n a.self.now.lowest in
    let hi = take a.n a.self.now.highest in
    let l = c.loop-low in
    let n = both-n (goal.at.loop-low-preserved c).At-loop-low in
    let t = zip_turn lo hi l.yielded c.into_iter-low-iterator.result l.low-iterator c.next.new.self c.next.result (search rules) (search rules) l.yielded_by (c.in-Some.low, c.in-Some.high) c.in-Some.is c.next.ensures.steps in
    let t2 = t.2 0 in
    let t3 = t.3 0 in
    let m = length-append l.yielded ((c.in-Some.low, c.in-Some.high) ∷ []) in
    rw m (fit_next lo hi (n.0 ∙ sym n.1) _ (length l.yielded) l.invariant t.0 (omega (arith, t2, t3, c.if-low-high.false)))

pub returns : goal.returns
returns c =
    let a = c.args in
    let lo = take a.n a.self.now.lowest in
    let hi = take a.n a.self.now.highest in
    let l = c.loop-low in
    let n = both-n (goal.at.returns c).At-loop-low in
    let e = zip_end lo hi l.yielded c.into_iter-low-iterator.result l.low-iterator c.next.new.self c.next.result (search rules) (search rules) l.yielded_by c.in-None.is c.next.ensures.steps in
    fit-done lo hi (n.0 ∙ sym n.1) _ (length l.yielded) l.invariant (omega (arith, e, n.0, n.1))
