-- What a relay does with two lines.
use Rattle.std.specs.Prelude.{◌≡◌, ℕ, ◌+◌, ◌%◌, ◌^◌, Bool, true, false, Some, None, Option, is_some}
use Rattle.lines.specs.declared.line.Line.{Ghosts as LineMeans}
use Rattle.words.specs.Notes.{Note}

-- the number of posts after a relay
abbrev pub posts_after : Bool → ℕ → ℕ
posts_after true p = (p + 1) % 2 ^ 64
posts_after false p = p

module _ {M : Type 0} (mt : LineMeans M) where
  -- this was posted by a step of the line's own, or nothing was and the line stays
  abbrev pub PassedOn : Option Note → M → M → Type 0
  PassedOn None to to' = to' ≡ to
  PassedOn (Some n) to to' = mt.step to n to'

module _ {N M : Type 0} (mf : LineMeans N) (mt : LineMeans M) where
  -- what one line gave by its own rules is what was posted on the other
  pub record Relayed (from : N) (to : M) (from' : N) (to' : M) (posted : Bool) : Type 0 where
    pub given : Option Note
    pub gave : mf.gives from given from'
    pub passed : PassedOn mt given to to'
    pub told : posted ≡ is_some given
