-- Parts of lines as the code prints them. `LineLaws` says that the lines are made of them.
use Rattle.std.specs.Prelude.{ℕ, List, [], ◌∷◌, ◌++◌}
use Rattle.sheet.specs.Model.{State}
use Rattle.lines.specs.Digits.{decimal}
use Rattle.lines.specs.Lines.{space, line_end, statuses_text, jobs_text, or_dash, tick_word}

-- two numbers, each behind its words, and the line's end
abbrev pub pair_line : List ℕ → ℕ → List ℕ → ℕ → List ℕ
pair_line first a second b = first ++ (decimal a ++ (second ++ (decimal b ++ (line_end ∷ []))))

-- a clock, with a space behind it
abbrev pub clock_part : ℕ → List ℕ
clock_part ticks = decimal ticks ++ (space ∷ [])

-- a row's state, with a space behind each field
abbrev pub state_part : ℕ → State → List ℕ
state_part n q = clock_part q.now ++ (clock_part q.elapsed ++ (statuses_text n q ++ (space ∷ [])))

-- a row's marks, and the line's end
abbrev pub marks_part : ℕ → ℕ → ℕ → List ℕ
marks_part n starts tick = or_dash (jobs_text n starts) ++ (space ∷ (tick_word tick ++ (line_end ∷ [])))

-- the most bytes of a clock: three digits and a space
abbrev pub clock_bytes : ℕ
clock_bytes = 4

-- of a state: two clocks, eight statuses and a space
abbrev pub state_bytes : ℕ
state_bytes = 17

-- of the marks: eight jobs, a space, four letters and the line's end
abbrev pub marks_bytes : ℕ
marks_bytes = 14
