-- A log at a moment, what its calls make of it, and whose records are in it.
use Rattle.std.specs.Prelude.{◌≡◌, ℕ, ◌+◌, ◌-◌, ◌^◌, Bool, true, false, cond, ◌&&◌, ◌||◌, ◌⊎◌, List, [], ◌∷◌, ◌++◌, length, take, Some, None, Option, ◌==◌}
use Rattle.logs.specs.Adding.{has_room}
use Rattle.logs.specs.declared.log.Log.{Ghosts as LogMeans}
use Rattle.records.specs.Recs.{Rec}

-- the safe records, which outlast a power cut, the loose ones, which may not, and how many there may be in all
pub record LogState : Type 0 where
  pub safe : List Rec
  pub loose : List Rec
  pub capacity : ℕ

-- what a log of the code is at a moment
abbrev pub log_of : {L : Type 0} → LogMeans L → L → LogState
log_of m l = record { safe = m.safe l; loose = m.loose l; capacity = m.capacity l }

abbrev pub spare : LogState → ℕ
spare l = l.capacity - (length l.safe + length l.loose)

-- whether one more record can be added
abbrev pub roomy : LogState → Bool
roomy l = has_room l.capacity l.safe l.loose

abbrev pub added : Rec → LogState → LogState
added r l = record { safe = l.safe; loose = l.loose ++ r ∷ []; capacity = l.capacity }

abbrev pub secured : LogState → LogState
secured l = record { safe = l.safe ++ l.loose; loose = []; capacity = l.capacity }

-- after a restart that k loose records outlast
abbrev pub restarted : ℕ → LogState → LogState
restarted k l = record { safe = l.safe ++ take k l.loose; loose = []; capacity = l.capacity }

-- the numbers of the kinds of record
abbrev pub decision_kind : ℕ
decision_kind = 1

abbrev pub vote_kind : ℕ
vote_kind = 2

abbrev pub kept_kind : ℕ
kept_kind = 3

abbrev pub undone_kind : ℕ
undone_kind = 4

abbrev pub of_transaction : ℕ → Rec → Bool
of_transaction t r = r.transaction == t

abbrev pub is_decision : ℕ → Rec → Bool
is_decision t r = r.kind == decision_kind && r.transaction == t

-- a record of this kind of the participant at seat s
abbrev pub is_own : ℕ → ℕ → ℕ → Rec → Bool
is_own kind t s r = r.kind == kind && (r.transaction == t && r.seats == 2 ^ s)

abbrev pub is_ending : ℕ → ℕ → Rec → Bool
is_ending t s r = is_own kept_kind t s r || is_own undone_kind t s r

abbrev pub first : (Rec → Bool) → List Rec → Option Rec
first p [] = None
first p (r ∷ rs) = cond (p r) (Some r) (first p rs)

abbrev pub some_is : (Rec → Bool) → List Rec → Bool
some_is p [] = false
some_is p (r ∷ rs) = p r || some_is p rs

-- a record that passes the test is in the list; in the log, safe or loose; not in the log
abbrev pub Has : (Rec → Bool) → List Rec → Type 0
Has p [] = ⊥
Has p (r ∷ rs) = (p r ≡ true) ⊎ Has p rs

abbrev pub InLog : (Rec → Bool) → LogState → Type 0
InLog p l = Has p l.safe ⊎ Has p l.loose

abbrev pub Without : (Rec → Bool) → LogState → Type 0
Without p l = InLog p l → ⊥

-- a log with no record of the transaction
abbrev pub Fresh : ℕ → LogState → Type 0
Fresh t l = Without (of_transaction t) l
