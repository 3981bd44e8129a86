-- A byte of starts with one job more (01, "Bit k−1 of the byte of starts stands for job k").
use Rattle.std.specs.Prelude.{ℕ, ◌+◌, ◌-◌, ◌*◌, ◌/◌, ◌%◌, ◌^◌}

-- 2^(k − 1) is added, unless bit k − 1 is set
abbrev pub with_start : ℕ → ℕ → ℕ
with_start b k = b + (1 - b / 2 ^ (k - 1) % 2) * 2 ^ (k - 1)
