use Rattle.std.proofs.Common.{◌≡◌, List, refl, ap}
use Rattle.seats.proofs.ExactFacts.{exactly-has, exactly-never}
use Rattle.words.specs.Notes.{Note, note_of, row_of}
use Rattle.words.specs.declared.notification.Notification.{Notification}
use Rattle.agreement.specs.World.{by_mail, was_given}
use Rattle.desks.specs.Worlds.{world_of}
use Rattle.desks.proofs.WorldFacts.{behind, given-row, given-at, in-at, not-given}
use Rattle.desks.proofs.desk.Desk.post.Goals as goal

pub returns-clause-step : goal.returns-clause-step
returns-clause-step g c =
    let n = c.in-Ok.notification in
    let d = world_of g.C.Log g.P.Log g.N.Line c.args.self.now in
    let m = d.office.mail in
    let e = behind note_of c.args.self.now.posted.items c.push.new.self.items n c.in_ok-push.ensures.items in
    let a = c.in-Some.ensures.lookup in
    let t = c.in-Ok.ensures in
    let ws = c.args.self.now.given.items in
    let row = given-row c.deref.result.now ws c.args.number c.in-Some.row.now c.deref.ensures.value a.3.0 (a.3.1 c.in-Some.row.now) in
    let at = given-at ws c.args.number c.in-Some.row.now (note_of n) row (exactly-has (λ (x : Notification). c.in-Some.row.now ≡ row_of (note_of x)) n t.exact) in (
      note_of n,
      at,
      record {
        possible = (was_given (in-at m.given c.args.number (note_of n) at), c.post.ensures.waits);
        made = ap (λ (posted : List Note). by_mail d (record { given = m.given; posted = posted; taken = m.taken; waiting = g.N.Line.waiting c.post.new.self })) e;
      },
    )

pub returns-in_default-try_from-clause-step : goal.returns-in_default-try_from-clause-step
returns-in_default-try_from-clause-step g c =
    let a = c.in-Some.ensures.lookup in
    let t = c.in_default-try_from.ensures in
    let ws = c.args.self.now.given.items in
    let row = given-row c.deref.result.now ws c.args.number c.in-Some.row.now c.deref.ensures.value a.3.0 (a.3.1 c.in-Some.row.now) in
    (λ (n : Notification). not-given ws c.args.number c.in-Some.row.now n row (exactly-never (λ (x : Notification). c.in-Some.row.now ≡ row_of (note_of x)) t.exact), refl)

pub returns-clause-line : goal.returns-clause-line
returns-clause-line g c =
    let n = c.in-Ok.notification in
    let a = c.in-Some.ensures.lookup in
    let ws = c.args.self.now.given.items in
    let row = given-row c.deref.result.now ws c.args.number c.in-Some.row.now c.deref.ensures.value a.3.0 (a.3.1 c.in-Some.row.now) in
    let at = given-at ws c.args.number c.in-Some.row.now (note_of n) row (exactly-has (λ (x : Notification). c.in-Some.row.now ≡ row_of (note_of x)) n c.in-Ok.ensures.exact) in
    (note_of n, at, (c.post.ensures.stepped, c.post.ensures.counted))
