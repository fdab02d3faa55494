-- What the groups of places mean.
use Rattle.std.specs.Prelude.{Bool}
use Rattle.agreement.specs.CoordinatorRules.{is_durable, is_volatile, idle_volatile, idle_durable, pending_volatile, asked, voted, voted_durable, remains}
use Rattle.agreement.specs.Names.{Place}
use Rattle.agreement.specs.declared.coordinator.Durability.{Durability}
use Rattle.agreement.specs.declared.coordinator.Durability.TheVariants.{Volatile, Durable}
use Rattle.coordinator.specs.declared.group.Group.{Group}
use Rattle.coordinator.specs.declared.group.Group.TheVariants.{IdleVolatile, IdleDurable, PendingVolatile, Asked, Voted, VotedDurable, Remaining}

-- whether a place is of the group
abbrev pub passes : Group → Place → Bool
passes IdleVolatile = idle_volatile
passes IdleDurable = idle_durable
passes PendingVolatile = pending_volatile
passes Asked = asked
passes Voted = voted
passes VotedDurable = voted_durable
passes Remaining = remains

-- whether a participant is of this durability
abbrev pub same : Durability → Durability → Bool
same Volatile = is_volatile
same Durable = is_durable
