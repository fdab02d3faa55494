-- The sizes of the logs.
use Rattle.std.specs.Prelude.{ℕ}

-- how many records a tray can hold
abbrev pub tray_length : ℕ
tray_length = 32

-- how many records a gatherer holds back at most
abbrev pub held_length : ℕ
held_length = 8
