-- The kinds of notification.
use Rattle.std.specs.Prelude.{ℕ, Bool, true, false, cond, List, Some, None, codes, Option, ◌==◌}
use Rattle.words.specs.declared.kind.Kind.{Kind}
use Rattle.words.specs.declared.kind.Kind.TheVariants.{Prepare, Commit, Rollback, Prepared, ReadOnly, Aborted, Committed}

abbrev pub kind_number : Kind → ℕ
kind_number Prepare = 1
kind_number Commit = 2
kind_number Rollback = 3
kind_number Prepared = 4
kind_number ReadOnly = 5
kind_number Aborted = 6
kind_number Committed = 7

-- the kind of a number, if there is one
abbrev pub kind_at : ℕ → Option Kind
kind_at n =
    cond (n == 1) (Some Prepare) (cond (n == 2) (Some Commit) (cond (n == 3) (Some Rollback) (cond (n == 4) (Some Prepared)
    (cond (n == 5) (Some ReadOnly) (cond (n == 6) (Some Aborted) (cond (n == 7) (Some Committed) None))))))

-- whether a kind goes to the coordinator
abbrev pub goes_up : Kind → Bool
goes_up Prepare = false
goes_up Commit = false
goes_up Rollback = false
goes_up Prepared = true
goes_up ReadOnly = true
goes_up Aborted = true
goes_up Committed = true

abbrev pub kind_name : Kind → List ℕ
kind_name Prepare = codes "Prepare"
kind_name Commit = codes "Commit"
kind_name Rollback = codes "Rollback"
kind_name Prepared = codes "Prepared"
kind_name ReadOnly = codes "ReadOnly"
kind_name Aborted = codes "Aborted"
kind_name Committed = codes "Committed"
