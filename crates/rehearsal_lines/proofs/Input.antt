-- A whole input, however it comes, is answered line by line.
--     input-lines      where a line of more than 129 bytes says what its first 129 say
-- Assumes nothing.
use mathlib.Core.Path.{◌≡◌, refl, ap}
use mathlib.Core.Bool.{Bool, true, false}
use mathlib.Core.List.{List, [], ◌∷◌, ◌++◌, append_assoc}
use Prim.Native.Nat.{ℕ}
use native.Mathlib.Omega.{arith}
use lib.Dec.{eqb}
use Rattle.lists.specs.Tests.{pick}
use Rattle.decimal.specs.Numbers.{in_first}
use Rattle.rehearsal_lines.specs.Held.{cut}
use Rattle.rehearsal_lines.specs.Feeding.{Said, Fed, feed_by, finish_by, input_by, lines_of, say_all}
use Rattle.rehearsal_lines.proofs.Holding.{cut-more}
use Rattle.rehearsal_lines.proofs.Feeding.{finish-line}

-- the lines of s with the bytes h, none of them a newline, in front
lines_after : List ℕ → List ℕ → List (List ℕ)
lines_after [] s = lines_of s
lines_after (b ∷ h) s = in_first b (lines_after h s)

after-newline : (h : List ℕ) (b : ℕ) (s : List ℕ) → eqb b 10 ≡ true → lines_after h (b ∷ s) ≡ h ∷ lines_of s
unfolding lines_after lines_of in_first pick
after-newline [] b s e = rw e
after-newline (a ∷ h) b s e = rw (after-newline h b s e)

after-byte : (h : List ℕ) (b : ℕ) (s : List ℕ) → eqb b 10 ≡ false → lines_after h (b ∷ s) ≡ lines_after (h ++ (b ∷ [])) s
unfolding lines_after lines_of pick
after-byte [] b s e = rw e
after-byte (a ∷ h) b s e = ap (in_first a) (after-byte h b s e)

after-end : (a : ℕ) (h : List ℕ) → lines_after (a ∷ h) [] ≡ (a ∷ h) ∷ []
unfolding lines_after lines_of in_first
after-end a [] = refl
after-end a (b ∷ h) = ap (in_first a) (after-end b h)

module _ {W : Type 0} (say : W → List ℕ → Said W) (long : (w : W) (line : List ℕ) → say w (cut line) ≡ say w line) where
  -- fed with the line h held, and then ended
  abbrev ended : Fed W → Said W
  ended f = record { world = (finish_by say f.world f.held).world; printed = f.printed ++ (finish_by say f.world f.held).printed }

  end-lines : (w : W) (h : List ℕ) → ended (record { world = w; held = cut h; printed = [] }) ≡ say_all say w (lines_after h [])
  unfolding finish_by feed_by lines_after lines_of say_all pick
  end-lines w [] = refl
  end-lines w (b ∷ h) = rw (after-end b h, ← finish-line say w (cut (b ∷ h)) (λ z. omega (arith, z)), long w (b ∷ h))

  input-by : (w : W) (h : List ℕ) (b : ℕ) (s : List ℕ) (t : Bool) → eqb b 10 ≡ t →
      ((v : W) (g : List ℕ) → ended (feed_by say v (cut g) s) ≡ say_all say v (lines_after g s)) →
      ended (feed_by say w (cut h) (b ∷ s)) ≡ say_all say w (lines_after h (b ∷ s))
  unfolding feed_by lines_after say_all pick
  input-by w h b s true e again =
      let i = again (say w h).world [] in
      rw (e, after-newline h b s e, long w h, append_assoc, ← i)
  input-by w h b s false e again = rw (e, after-byte h b s e, cut-more h (b ∷ [])) (again w (h ++ (b ∷ [])))

  input-after : (w : W) (h s : List ℕ) → ended (feed_by say w (cut h) s) ≡ say_all say w (lines_after h s)
  unfolding feed_by
  input-after w h [] = end-lines w h
  input-after w h (b ∷ s) = input-by w h b s (eqb b 10) refl (λ v g. input-after v g s)

  -- an input prints its lines' answers in order, and leaves what they leave
  pub input-lines : (w : W) (input : List ℕ) → input_by say w input ≡ say_all say w (lines_of input)
  unfolding lines_after
  input-lines w input = input-after w [] input
