use Rattle.std.proofs.Common.{List, [], ◌∷◌, ◌++◌, ap, ◌∙◌}
use Rattle.words.specs.Notes.{Note, note_of}
use Rattle.agreement.specs.World.{by_mail}
use Rattle.desks.specs.Worlds.{world_of}
use Rattle.desks.proofs.WorldFacts.{behind}
use Rattle.desks.proofs.desk.Desk.take.Goals as goal

pub returns-clause-step : goal.returns-clause-step
returns-clause-step g c =
    let n = c.in-Some.notification in
    let d = world_of g.C.Log g.P.Log g.N.Line c.args.self.now in
    let m = d.office.mail in
    let e = behind note_of c.args.self.now.taken.items c.push.new.self.items n (c.in_ok-push.ensures.items ∙ ap (λ xs. xs ++ n ∷ []) c.reserve.ensures.items) in
    record {
      possible = (c.in-Some.ensures.waited, c.take.ensures.waits);
      made = ap (λ (taken : List Note). by_mail d (record { given = m.given; posted = m.posted; taken = taken; waiting = g.N.Line.waiting c.take.new.self })) e;
    }
