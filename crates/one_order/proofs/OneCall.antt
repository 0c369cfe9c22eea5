-- One call and every office: what holds between an office and itself, and between an office and what issue, take or elect makes of it, holds
-- between every office before and after any call. Assumes nothing.
use mathlib.Core.Path.{sym, subst}
use Rattle.std.specs.Prelude.{Option, None, Some}
use mathlib.Core.Bool.{◌&&◌}
use mathlib.Core.Logic.{inl, inr}
use Prim.Native.Nat.{ℕ}
use lib.Dec.{eqb}
use Rattle.std.specs.Prelude.{slice_get}
use Rattle.protocol.specs.Entry.{value}
use Rattle.protocol.specs.Vote.{Rule}
use Rattle.protocol.specs.Office.{Office, Message, fresh}
use Rattle.protocol.specs.Issue.{with_issue}
use Rattle.protocol.specs.Take.{with_take}
use Rattle.protocol.specs.Elect.{with_elect}
use Rattle.protocol.proofs.World.{World, Call, issue, send, take, elect, idle, at, put, names, taking, refusal, done, step}
use Rattle.lists.proofs.Tests.{if-cases}
use Rattle.protocol_laws.proofs.Office.{SetCases, set_cases}

-- R of an office alone, and of each call that changes one
pub record EachChange (rule : Rule) (R : Office → Office → Type 0) : Type 0 where
  pub alone : (o : Office) → R o o
  pub issued : (k e : ℕ) (o : Office) → R o (with_issue k e o)
  pub taken : (k : ℕ) (m : Message) (o : Office) → R o (with_take k m o)
  pub elected : (o : Office) → R o (with_elect rule o)

module _ (rule : Rule) (R : Office → Office → Type 0) (each : EachChange rule R) where
  put-relates : (w : World) (k : ℕ) (o : Office) → R (at w k) o → (j : ℕ) → R (at w j) (at (put w k o) j)
  put-relates w k o h j = go (set_cases w.offices k o fresh j)
    where
      go : SetCases w.offices k o fresh j → R (at w j) (at (put w k o) j)
      go (inl e) = subst (λ (x : Office). R (at w j) x) (sym e) (each.alone (at w j))
      go (inr e) = subst (λ (x : Office). R (at w j) x) (sym e.2) (subst (λ (i : ℕ). R (at w i) o) (sym e.0) h)

  taking-relates : (k : ℕ) (m : Option Message) (o : Office) → R o (taking k m o)
  taking-relates k None o = each.alone o
  taking-relates k (Some m) o = each.taken k m o

  done-relates : (w : World) (c : Call) (j : ℕ) → R (at w j) (at (done rule w c) j)
  unfolding done
  done-relates w (issue k line code) j = put-relates w k (with_issue k (value k line code) (at w k)) (each.issued k (value k line code) (at w k)) j
  done-relates w (send k room) j = each.alone (at w j)
  done-relates w (take k m) j = put-relates w k (taking k (slice_get w.sent m) (at w k)) (taking-relates k (slice_get w.sent m) (at w k)) j
  done-relates w (elect k) j = put-relates w k (with_elect rule (at w k)) (each.elected (at w k)) j
  done-relates w idle j = each.alone (at w j)

  pub step-relates : (w : World) (c : Call) (j : ℕ) → R (at w j) (at (step rule w c) j)
  unfolding step
  step-relates w c j =
      if-cases (λ x. R (at w j) (at x j)) (names w c && eqb (refusal w c) 0) (done rule w c) w (λ _. done-relates w c j) (λ _. each.alone (at w j))
