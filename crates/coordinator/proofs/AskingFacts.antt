-- A volatile seat that was just asked owes its vote, so nothing more happens.
use Rattle.std.proofs.Common.{◌≡◌, ℕ, suc, ◌<◌, false, List, [], ◌∷◌, length, map, Some, None, sym, refl, subst, append-nil, arith}
use Rattle.agreement.specs.CoordinatorRules.{Coord, CoordTurn, coord, ask, is_volatile, idle_volatile, pending_volatile, none_is, to_each, volatile_asked}
use Rattle.agreement.specs.Names.{Place}
use Rattle.agreement.specs.Turns.{Reply, gives}
use Rattle.agreement.specs.declared.coordinator.Durability.TheVariants.{Volatile, Durable}
use Rattle.agreement.specs.declared.coordinator.Standing.TheVariants as standings
use Rattle.agreement.specs.declared.coordinator.State.{State}
use Rattle.agreement.specs.declared.coordinator.State.TheVariants.{VolatileVoting}
use Rattle.coordinator.specs.Calls.{Obeys, coord_of}
use Rattle.coordinator.specs.declared.Coordinator.{Coordinator}
use Rattle.words.specs.declared.kind.Kind.{Kind}
use Rattle.words.specs.declared.kind.Kind.TheVariants.{Prepare}
use Rattle.words.specs.declared.row.Row.{Row}

some-owes : (t : ℕ) (k : Kind) (i : ℕ) (ps : List Place) → 0 < length (to_each t k idle_volatile i ps) → none_is pending_volatile (map (ask is_volatile) ps) ≡ false
some-owes t k i [] h = let no : ⊥ = omega arith in absurd no
some-owes t k i (None ∷ ps) h = some-owes t k (suc i) ps h
some-owes t k i (Some (Durable, x) ∷ ps) h = some-owes t k (suc i) ps h
some-owes t k i (Some (Volatile, standings.Idle) ∷ ps) h = refl
some-owes t k i (Some (Volatile, standings.Asked) ∷ ps) h = refl
some-owes t k i (Some (Volatile, standings.Voted) ∷ ps) h = some-owes t k (suc i) ps h
some-owes t k i (Some (Volatile, standings.Gone) ∷ ps) h = some-owes t k (suc i) ps h
some-owes t k i (Some (Volatile, standings.Heard) ∷ ps) h = some-owes t k (suc i) ps h

only_asked : (t : ℕ) (c : Coord) → 0 < length (to_each t Prepare idle_volatile 0 c.table)
    → volatile_asked t c ≡ gives (coord VolatileVoting (map (ask is_volatile) c.table)) (to_each t Prepare idle_volatile 0 c.table)
only_asked t c h = simp (some-owes t Prepare 0 c.table h, append-nil)

pub obeys_asked : (c d : Coordinator) (old new : List Row) (said : Reply State) → 0 < length (to_each c.transaction Prepare idle_volatile 0 c.table)
    → Obeys (gives (coord VolatileVoting (map (ask is_volatile) c.table)) (to_each c.transaction Prepare idle_volatile 0 c.table)) c d old new said
    → Obeys (volatile_asked c.transaction (coord_of c)) c d old new said
obeys_asked c d old new said h o = subst (λ (turn : CoordTurn). Obeys turn c d old new said) (sym (only_asked c.transaction (coord_of c) h)) o
