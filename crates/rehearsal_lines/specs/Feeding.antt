-- Bytes that come in pieces are read line by line: "the newline isn't counted, and the last line may lack it". What a whole line says
-- to a world is a parameter. Assumes nothing.
use Rattle.std.specs.Prelude.{ℕ, List, [], ◌∷◌, ◌++◌, eqb, length}
use Rattle.lists.specs.Tests.{pick}
use Rattle.decimal.specs.Numbers.{in_first}
use Rattle.rehearsal_lines.specs.Held.{cut}

-- what a line leaves and prints
pub record Said (W : Type 0) : Type 0 where
  pub world : W
  pub printed : List ℕ

-- the same of many bytes, with the line that is held at their end
pub record Fed (W : Type 0) : Type 0 where
  pub world : W
  pub held : List ℕ
  pub printed : List ℕ

-- a line, and what was fed behind it
abbrev pub said_then : {W : Type 0} → Said W → Fed W → Fed W
said_then s f = record { world = f.world; held = f.held; printed = s.printed ++ f.printed }

-- each byte is held until a newline (10) ends the line
unfoldable pub feed_by : {W : Type 0} → (W → List ℕ → Said W) → W → List ℕ → List ℕ → Fed W
feed_by say w held [] = record { world = w; held = held; printed = [] }
feed_by say w held (b ∷ bs) =
    pick (eqb b 10) (said_then (say w held) (feed_by say (say w held).world [] bs)) (feed_by say w (cut (held ++ (b ∷ []))) bs)

-- at the end of the input: a held line is a line, and nothing is none
unfoldable pub finish_by : {W : Type 0} → (W → List ℕ → Said W) → W → List ℕ → Fed W
finish_by say w held = pick (eqb (length held) 0) (feed_by say w held []) (feed_by say w held (10 ∷ []))

-- a whole input, fed with no line held and then ended
abbrev pub input_by : {W : Type 0} → (W → List ℕ → Said W) → W → List ℕ → Said W
input_by say w input =
    record {
      world = (finish_by say (feed_by say w [] input).world (feed_by say w [] input).held).world;
      printed = (feed_by say w [] input).printed ++ (finish_by say (feed_by say w [] input).world (feed_by say w [] input).held).printed;
    }

-- the lines of an input: what its newlines end, and behind the last newline what is left, if anything is
unfoldable pub lines_of : List ℕ → List (List ℕ)
lines_of [] = []
lines_of (b ∷ bs) = pick (eqb b 10) ([] ∷ lines_of bs) (in_first b (lines_of bs))

-- what these lines leave and print, each said to the world that the lines before it left
unfoldable pub say_all : {W : Type 0} → (W → List ℕ → Said W) → W → List (List ℕ) → Said W
say_all say w [] = record { world = w; printed = [] }
say_all say w (l ∷ ls) = record { world = (say_all say (say w l).world ls).world; printed = (say w l).printed ++ (say_all say (say w l).world ls).printed }
