-- No refusal has the number of a call that is done. Assumes nothing.
use Rattle.std.proofs.Common.{◌≡◌, arith}
use Rattle.refusals.specs.Refusals.{number_of}
use Rattle.refusals.specs.declared.Refusal.{Refusal}
use Rattle.refusals.specs.declared.Refusal.TheVariants.{Unsound, Founding, NoEntry, TailFull, LogFull, OutputShort, NoMessage, OtherOffices, OwnMessage, OtherLog, PartFull, NoHouseholds, NoPlace, NoVector, NoWeights, BeginsPast, EndsInside}

pub above-zero : (f : Refusal) → number_of f ≡ 0 → ⊥
above-zero Unsound e = omega (arith, e)
above-zero Founding e = omega (arith, e)
above-zero NoEntry e = omega (arith, e)
above-zero TailFull e = omega (arith, e)
above-zero LogFull e = omega (arith, e)
above-zero OutputShort e = omega (arith, e)
above-zero NoMessage e = omega (arith, e)
above-zero OtherOffices e = omega (arith, e)
above-zero OwnMessage e = omega (arith, e)
above-zero OtherLog e = omega (arith, e)
above-zero PartFull e = omega (arith, e)
above-zero NoHouseholds e = omega (arith, e)
above-zero NoPlace e = omega (arith, e)
above-zero NoVector e = omega (arith, e)
above-zero NoWeights e = omega (arith, e)
above-zero BeginsPast e = omega (arith, e)
above-zero EndsInside e = omega (arith, e)
