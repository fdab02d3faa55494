-- The words of a call, and what they ask for.
use Rattle.std.specs.Prelude.{ℕ, cond, map, string_bytes, ◌&&◌, List, [], ◌∷◌, Some, None, Option, codes}
use Rattle.std.specs.Str.{bytes_eq}
use Rattle.wording.specs.declared.call.Command.{Command}
use Rattle.wording.specs.declared.call.Command.TheVariants.{Step, Demonstrate, Help, Journal, Queue, Board, CoordinatorOnTray, CoordinatorOnJournal, ParticipantOnTray, ParticipantOnJournal, Rehearse, RehearseFile, Explore, Tables, TablesAsCsv}

pub data Asked : Type 0 where
  step : Asked
  demonstrate : Asked
  help : Asked
  journal : List ℕ → List ℕ → Asked
  queue : List ℕ → Asked
  board : Asked
  coordinator_on_tray : Asked
  coordinator_on_journal : List ℕ → Asked
  participant_on_tray : Asked
  participant_on_journal : List ℕ → Asked
  rehearse : Asked
  rehearse_file : List ℕ → Asked
  explore : List (List ℕ) → Asked
  tables : Asked
  tables_as_csv : Asked
  unknown : Asked

-- what a command asks for, with the texts of its words; none is asked for by words that are no call
abbrev pub asked : Option Command → Asked
asked (Some Step) = step
asked (Some Demonstrate) = demonstrate
asked (Some Help) = help
asked (Some (Journal file count)) = journal file.now count.now
asked (Some (Queue places)) = queue places.now
asked (Some Board) = board
asked (Some CoordinatorOnTray) = coordinator_on_tray
asked (Some (CoordinatorOnJournal bytes)) = coordinator_on_journal bytes.now
asked (Some ParticipantOnTray) = participant_on_tray
asked (Some (ParticipantOnJournal bytes)) = participant_on_journal bytes.now
asked (Some Rehearse) = rehearse
asked (Some (RehearseFile file)) = rehearse_file file.now
asked (Some (Explore options)) = explore (map string_bytes options.now)
asked (Some Tables) = tables
asked (Some TablesAsCsv) = tables_as_csv
asked None = unknown

abbrev pub asked_one : List ℕ → Asked
asked_one w =
    cond (bytes_eq w (codes "--help")) help (
    cond (bytes_eq w (codes "journal")) demonstrate (
    cond (bytes_eq w (codes "rehearse")) rehearse (
    cond (bytes_eq w (codes "tables")) tables unknown
    )
    )
    )

abbrev pub asked_two : List ℕ → List ℕ → Asked
asked_two w x =
    cond (bytes_eq w (codes "rehearse")) (rehearse_file x) (
    cond (bytes_eq w (codes "tables") && bytes_eq x (codes "--csv")) tables_as_csv (
    cond (bytes_eq w (codes "line") && bytes_eq x (codes "board")) board (
    cond (bytes_eq w (codes "coordinator") && bytes_eq x (codes "tray")) coordinator_on_tray (
    cond (bytes_eq w (codes "participant") && bytes_eq x (codes "tray")) participant_on_tray unknown
    )
    )
    )
    )

abbrev pub asked_three : List ℕ → List ℕ → List ℕ → Asked
asked_three w x y =
    cond (bytes_eq w (codes "journal")) (journal x y) (
    cond (bytes_eq w (codes "line") && bytes_eq x (codes "queue")) (queue y) (
    cond (bytes_eq w (codes "coordinator") && bytes_eq x (codes "journal")) (coordinator_on_journal y) (
    cond (bytes_eq w (codes "participant") && bytes_eq x (codes "journal")) (participant_on_journal y) unknown
    )
    )
    )

-- by the number of words
abbrev pub asked_by_number : List (List ℕ) → Asked
asked_by_number [] = step
asked_by_number (w ∷ []) = asked_one w
asked_by_number (w ∷ (x ∷ [])) = asked_two w x
asked_by_number (w ∷ (x ∷ (y ∷ []))) = asked_three w x y
asked_by_number (w ∷ (x ∷ (y ∷ (z ∷ ws)))) = unknown

-- behind 'explore' there may be any words
abbrev pub asked_by : List (List ℕ) → Asked
asked_by [] = step
asked_by (w ∷ ws) = cond (bytes_eq w (codes "explore")) (explore ws) (asked_by_number (w ∷ ws))
