use Rattle.std.proofs.Common.{◌≡◌, ℕ, subst, refl, arith}
use Rattle.agreement.specs.declared.coordinator.State.TheVariants.{Active}
use Rattle.edges.proofs.Playing.{again, there, seated_case, no_seat_case}
use Rattle.edges.specs.Expected.{registering}
use Rattle.edges.specs.Stages.{Stands}
use Rattle.edges.proofs.seated.register_all.Goals as goal

pub loop-preserved : goal.loop-preserved
loop-preserved c = (again c.loop.counter c.loop.invariant.0 c.register.ensures, c.loop.invariant.1)

pub returns-clause-last : goal.returns-clause-last
returns-clause-last c =
    let all : c.loop.counter ≡ 15 = omega arith in
    let stands = subst (λ (n : ℕ). Stands (registering n) c.loop.stage) all c.loop.invariant.0 in
    seated_case 15 0 Active (there stands c.register-last.ensures) refl refl

pub returns-clause-more : goal.returns-clause-more
returns-clause-more c =
    let all : c.loop.counter ≡ 15 = omega arith in
    let stands = subst (λ (n : ℕ). Stands (registering n) c.loop.stage) all c.loop.invariant.0 in
    no_seat_case Active (there (again 15 stands c.register-last.ensures) c.register-more.ensures) refl refl
