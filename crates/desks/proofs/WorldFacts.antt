-- Lists of what happened grow at their ends; and what rows say.
use Rattle.std.proofs.Common.{◌≡◌, ℕ, ◌<◌, ◌+◌, ◌-◌, List, [], ◌∷◌, ◌++◌, Bool, true, false, not, cond, eqb, ltb, length, take, set, replicate, get_or, map, reverse, Some, None, Option, Result, unwrap_or, refl, ap, ap₂, subst, ◌∙◌, sym, zero, suc, inl, inr, arith}
use Rattle.std.proofs.lemmas.List.{drop-replicate, length-replicate, length-append, append-nil}
use Rattle.std.proofs.Math.Seq.{take-append_seam}
use Rattle.words.proofs.NoteFacts.{kind-read}
use Rattle.words.specs.Kinds.{kind_number, kind_at}
use Rattle.words.specs.Outboxes.{laid}
use Rattle.desks.specs.Rows.{is_blank, written}
use Rattle.std.proofs.lemmas.Bool.{lt-ltb, le-ltb}
use Rattle.std.specs.List.{slice_get, position, position_or_len}
use Rattle.agreement.specs.Names.{Kind, Prepare, Commit, Rollback, Prepared, ReadOnly, Aborted, Committed}
use Rattle.desks.specs.Worlds.{plain_note, plain_by, store_of, party_of, newcomer}
use Rattle.logs.specs.declared.log.Log.{Ghosts as LogMeans}
use mathlib.Core.List.{reverse-reverse}
use Rattle.std.proofs.lemmas.Option.{slice_get-map, slice_get_read}
use Rattle.std.specs.Option.{option_map}
use Rattle.agreement.proofs.ListFacts.{set_cases}
use Rattle.desks.specs.Own.{SeatsOwn}
use Rattle.desks.specs.declared.desk.Party.{Party as Sitter}
use Rattle.desks.specs.declared.desk.Party.TheVariants.{Nobody, Awaited, Joined}
use Rattle.desks.specs.declared.desk.Store.{Store}
use Rattle.lines.proofs.MemberFacts.{in_left, in_right}
use Rattle.lines.specs.Lines.{In}
use Rattle.agreement.specs.Turns.{note}
use Rattle.agreement.specs.CoordinatorRules.{Coord, CoordTurn, HeadTurn, coord, restart}
use Rattle.agreement.specs.Logs.{LogState, log_of, Fresh, of_transaction, some_is}
use Rattle.agreement.proofs.LogFacts.{has_left, has_right, has-cases, some-has, has_some}
use Rattle.agreement.specs.declared.participant.State.TheVariants.{Working}
use Rattle.agreement.specs.World.{World, Party, world, office, apart, by_head, by_initiator, told_by, new_party, seats_by, by_register, by_part, by_join, seat_in, nobody, awaited, joined}
use Rattle.agreement.specs.Turns.{Reply, done, tells, reply_of}
use Rattle.agreement.specs.declared.coordinator.Durability.{Durability}
use Rattle.agreement.specs.declared.coordinator.Durability.TheVariants.{Volatile, Durable}
use Rattle.agreement.specs.declared.coordinator.Outcome.{Outcome}
use Rattle.agreement.specs.declared.coordinator.State.{State}
use Rattle.agreement.specs.ParticipantRules.{Part, PartTurn, part}
use Rattle.agreement.specs.declared.participant.State.{State as PartState}
use Rattle.participant.specs.Calls.{Obeys as ObeysPart}
use Rattle.participant.specs.declared.Participant.{Participant}
use Rattle.seats.specs.declared.seat.Seat.{Seat}
use Rattle.words.specs.declared.fault.Fault.{Fault}
use lib.Seq.{map-set}
use Rattle.coordinator.specs.Calls.{coord_of, Obeys, Settles, Wakes}
use Rattle.coordinator.specs.declared.Coordinator.{Coordinator}
use Rattle.words.specs.declared.row.Row.{Row}
use Rattle.words.specs.Notes.{Note, note_of, row_of}
use Rattle.words.specs.declared.notification.Notification.{Notification}
use Rattle.std.proofs.lemmas.List.{reverse-append, map-append}

-- what is put behind a list comes first in its reverse
pub behind : {A B : Type 0} (f : A → B) (xs ys : List A) (x : A) → ys ≡ xs ++ x ∷ [] → reverse (map f ys) ≡ f x ∷ reverse (map f xs)
behind f xs ys x e = ap (λ zs. reverse (map f zs)) e ∙ ap reverse (map-append f xs (x ∷ [])) ∙ reverse-append (map f xs) (f x ∷ [])

-- a notification's row says it
kind-back : (t s : ℕ) (k : Kind) → plain_note (row_of (note t s k)) ≡ note t s k
kind-back t s Prepare = refl
kind-back t s Commit = refl
kind-back t s Rollback = refl
kind-back t s Prepared = refl
kind-back t s ReadOnly = refl
kind-back t s Aborted = refl
kind-back t s Committed = refl

pub plain-back : (n : Note) → plain_note (row_of n) ≡ n
plain-back n = kind-back n.transaction n.seat n.kind

-- and no other row does
pub plain-read : (w : Row) (n : Notification) → plain_note w ≡ note_of n → w ≡ row_of (note_of n)
plain-read w n e = by (kind_at w.kind) refl e
  where
    by : (o : Option Kind) → kind_at w.kind ≡ o → plain_by w o ≡ note_of n → w ≡ row_of (note_of n)
    by None q f =
        let s : 16 ≡ n.seat.value = ap (λ (x : Note). x.seat) f in
        let l = n.seat.small in
        absurd (let no : ⊥ = omega arith in no)
    by (Some k) q f =
        let r : w.kind ≡ kind_number k = sym (kind-read w.kind k q) in
        let t : w.transaction ≡ n.transaction = ap (λ (x : Note). x.transaction) f in
        let s : w.seat ≡ n.seat.value = ap (λ (x : Note). x.seat) f in
        let k' : kind_number k ≡ kind_number n.kind = ap (λ (x : Note). kind_number x.kind) f in
        λ i. record { transaction = t i; seat = s i; kind = (r ∙ k') i }

pub plain-all : (ns : List Note) → map plain_note (map row_of ns) ≡ ns
plain-all [] = refl
plain-all (n ∷ ns) = ap₂ ◌∷◌ (plain-back n) (plain-all ns)

-- the row with a number, as what it says
pub given-row : (vs ws : List Row) (i : ℕ) (w : Row) → vs ≡ ws → i < length vs → w ≡ get_or vs i w → slice_get (map plain_note ws) i ≡ Some (plain_note w)
given-row vs ws i w same l e = rw (← same) (at vs i l e)
  where
    at : (us : List Row) (j : ℕ) → j < length us → w ≡ get_or us j w → slice_get (map plain_note us) j ≡ Some (plain_note w)
    at [] j h q = let no : ⊥ = omega arith in absurd no
    at (u ∷ us) zero h q = ap (λ (x : Row). Some (plain_note x)) (sym q)
    at (u ∷ us) (suc j) h q = at us j (omega arith) q

-- a notification's row
pub given-at : (ws : List Row) (i : ℕ) (w : Row) (n : Note) → slice_get (map plain_note ws) i ≡ Some (plain_note w) → w ≡ row_of n → slice_get (map plain_note ws) i ≡ Some n
given-at ws i w n e r = e ∙ ap Some (ap plain_note r ∙ plain-back n)

-- no notification's row
pub not-given : (ws : List Row) (i : ℕ) (w : Row) (n : Notification) → slice_get (map plain_note ws) i ≡ Some (plain_note w) → ((x : Notification) → w ≡ row_of (note_of x) → ⊥) → slice_get (map plain_note ws) i ≡ Some (note_of n) → ⊥
not-given ws i w n e never f = let q : plain_note w ≡ note_of n = cc in never n (plain-read w n q)

pub in-at : {A : Type 0} (xs : List A) (i : ℕ) (x : A) → slice_get xs i ≡ Some x → In x xs
in-at [] i x e = let z : ◌≡◌ {A = ℕ} 0 1 = cc in absurd (let no : ⊥ = omega arith in no)
in-at (y ∷ xs) zero x e = let q : y ≡ x = cc in inl (sym q)
in-at (y ∷ xs) (suc i) x e = inr (in-at xs i x e)

pub in-reverse : {A : Type 0} (xs : List A) (x : A) → In x xs → In x (reverse xs)
in-reverse [] x h = absurd h
in-reverse (y ∷ ys) x (inl e) = subst (In x) (sym (reverse-append (y ∷ []) ys)) (in_right x (reverse ys) (y ∷ []) (inl e))
in-reverse (y ∷ ys) x (inr h) = subst (In x) (sym (reverse-append (y ∷ []) ys)) (in_left x (reverse ys) (y ∷ []) (in-reverse ys x h))

-- the notification that was taken with a number; the newest stands first
pub taken-at : (vs xs : List Notification) (i : ℕ) (n : Notification) → vs ≡ xs → i < length vs → n ≡ get_or vs i n → slice_get (reverse (reverse (map note_of xs))) i ≡ Some (note_of n)
taken-at vs xs i n same l e =
    ap (λ (ns : List Note). slice_get ns i) (reverse-reverse (map note_of xs)) ∙ slice_get-map note_of xs i
    ∙ ap (option_map note_of) (ap (λ (ns : List Notification). slice_get ns i) (sym same) ∙ slice_get_read vs (length vs) i n refl l e)

pub taken-in : (xs : List Notification) (i : ℕ) (n : Note) → slice_get (reverse (reverse (map note_of xs))) i ≡ Some n → In n (reverse (map note_of xs))
taken-in xs i n e = in-reverse (map note_of xs) n (in-at (map note_of xs) i n (sym (ap (λ (ns : List Note). slice_get ns i) (reverse-reverse (map note_of xs))) ∙ e))

-- ── what a call wrote to a blank outbox ──

abbrev pub blank : Row
blank = record { transaction = 0; seat = 0; kind = 0 }

-- no kind's number is 0
kind-some : (k : Kind) → eqb (kind_number k) 0 ≡ false
kind-some Prepare = refl
kind-some Commit = refl
kind-some Rollback = refl
kind-some Prepared = refl
kind-some ReadOnly = refl
kind-some Aborted = refl
kind-some Committed = refl

counted : (ns : List Note) (r : ℕ) → position_or_len is_blank (map row_of ns ++ replicate r blank) ≡ length (map row_of ns)
counted [] zero = refl
counted [] (suc r) = refl
counted (n ∷ ns) r = rw (kind-some n.kind) (ap (λ (m : ℕ). 1 + m) (counted ns r) ∙ (let e : 1 + length (map row_of ns) ≡ suc (length (map row_of ns)) = omega arith in e))

-- the first of so many blank rows behind m others, or the end
first-behind : (m n r : ℕ) → n ≡ m + r → unwrap_or (cond (ltb m n) (Some m) None) n ≡ m
first-behind m n zero e =
    let l : ltb m n ≡ false = le-ltb m n (omega arith) in let q : n ≡ m = omega arith in rw l q
first-behind m n (suc r) e =
    let l : ltb m n ≡ true = lt-ltb m n (omega arith) in rw l refl

pub wrote : (ns : List Note) (k : ℕ) (outbox : List Row) → outbox ≡ laid (map row_of ns) (replicate k blank) → written outbox ≡ map row_of ns
wrote ns k outbox e =
    let m = length (map row_of ns) in
    let r = k - m in
    let ws = map row_of ns ++ replicate r blank in
    let f : outbox ≡ ws = e ∙ ap (λ xs. map row_of ns ++ xs) (drop-replicate m k blank) in
    let l : length ws ≡ m + r = length-append (map row_of ns) (replicate r blank) ∙ ap (λ (x : ℕ). m + x) (length-replicate r blank) in
    let q : unwrap_or (position is_blank ws) (length ws) ≡ m = ap (λ p. unwrap_or (cond (ltb p (length ws)) (Some p) None) (length ws)) (counted ns r) ∙ first-behind m (length ws) r l in
    ap (λ (us : List Row). written us) f ∙ ap (λ n. take n ws) q ∙ take-append_seam (map row_of ns) (replicate r blank)

-- what was given, after a call that wrote these to a blank outbox
pub gave : (old new outbox : List Row) (ns : List Note) (k : ℕ) → new ≡ old ++ written outbox → outbox ≡ laid (map row_of ns) (replicate k blank)
    → map plain_note new ≡ map plain_note old ++ ns
gave old new outbox ns k e f =
    ap (map plain_note) (e ∙ ap (λ xs. old ++ xs) (wrote ns k outbox f)) ∙ map-append plain_note old (map row_of ns) ∙ ap (λ xs. map plain_note old ++ xs) (plain-all ns)

-- ── worlds that are the same part by part ──

same-log : (l k : LogState) → l.safe ≡ k.safe → l.loose ≡ k.loose → l.capacity ≡ k.capacity → l ≡ k
same-log l k a b c = λ i. record { safe = a i; loose = b i; capacity = c i }

same-coord : (c d : Coord) → c.state ≡ d.state → c.table ≡ d.table → c ≡ d
same-coord c d a b = λ i. coord (a i) (b i)

-- a turn of the coordinator, with its log
pub head-world : (w : World) (turn : HeadTurn) (c : Coord) (l : LogState) (given : List Note) → c.state ≡ turn.after.coord.state → c.table ≡ turn.after.coord.table
    → l.safe ≡ turn.after.log.safe → l.loose ≡ turn.after.log.loose → l.capacity ≡ turn.after.log.capacity → given ≡ w.office.mail.given ++ turn.sent
    → world l (office c w.office.seats (record { given = given; posted = w.office.mail.posted; taken = w.office.mail.taken; waiting = w.office.mail.waiting })) w.told ≡ by_head w turn
head-world w turn c l given s ta a b k g =
    let l' = same-log l turn.after.log a b k in
    let c' = same-coord c turn.after.coord s ta in
    λ i. world (l' i) (office (c' i) w.office.seats (record { given = g i; posted = w.office.mail.posted; taken = w.office.mail.taken; waiting = w.office.mail.waiting })) w.told

-- a call of the coordinator, with its log lent, whose outbox was blank
pub head-does : (f : ℕ → HeadTurn) (t k : ℕ) (w : World) (c d : Coordinator) (l : LogState) (old new outbox : List Row) (said : Reply State)
    → c.transaction ≡ t → map plain_note old ≡ w.office.mail.given → Settles (f c.transaction) c d l (replicate k blank) outbox said → new ≡ old ++ written outbox
    → (world l (office (coord_of d) w.office.seats (record { given = map plain_note new; posted = w.office.mail.posted; taken = w.office.mail.taken; waiting = w.office.mail.waiting })) w.told ≡ by_head w (f t))
    × (said ≡ (f t).reply)
head-does f t k w c d l old new outbox said e o s g =
    let turn = f c.transaction in
    let m = w.office.mail in
    subst (λ (u : ℕ). (world l (office (coord_of d) w.office.seats (record { given = map plain_note new; posted = m.posted; taken = m.taken; waiting = m.waiting })) w.told ≡ by_head w (f u)) × (said ≡ (f u).reply)) e (
      head-world w turn (coord_of d) l (map plain_note new) s.obeys.leaves.state s.obeys.leaves.table s.safe s.loose s.capacity
          (gave old new outbox turn.sent k g s.obeys.rows ∙ ap (λ (ns : List Note). ns ++ turn.sent) o),
      s.obeys.leaves.reply,
    )

-- and one that has no log at hand
pub apart-does : (turn : CoordTurn) (c d : Coordinator) (l : LogState) (old new : List Row) (said : Reply State) → Obeys turn c d old new said → Settles (apart l turn) c d l old new said
apart-does turn c d l old new said o = record { obeys = o; safe = refl; loose = refl; capacity = refl }

-- a call of the initiator, which told it the outcome
pub asks-does : (f : ℕ → HeadTurn) (t k : ℕ) (w : World) (c d : Coordinator) (l : LogState) (old new outbox : List Row) (x : Outcome) (n : ℕ) (told : List Outcome)
    → c.transaction ≡ t → map plain_note old ≡ w.office.mail.given → Settles (f c.transaction) c d l (replicate k blank) outbox (tells x n) → new ≡ old ++ written outbox → told ≡ x ∷ w.told
    → (world l (office (coord_of d) w.office.seats (record { given = map plain_note new; posted = w.office.mail.posted; taken = w.office.mail.taken; waiting = w.office.mail.waiting })) told ≡ by_initiator w (f t))
    × (tells x n ≡ (f t).reply)
asks-does f t k w c d l old new outbox x n told e o s g q =
    let h = head-does f t k w c d l old new outbox (tells x n) e o s g in
    let r : told ≡ told_by (f t).reply w.told = q ∙ ap (λ (y : Reply State). told_by y w.told) h.1 in
    (λ i. world (h.0 i).log (h.0 i).office (r i), h.1)

-- a registering, which leaves these at the seats
pub registers-does : (f : ℕ → CoordTurn) (dur : Durability) (t k : ℕ) (w : World) (c d : Coordinator) (old new outbox : List Row) (said : Reply State) (ps : List Party)
    → c.transaction ≡ t → map plain_note old ≡ w.office.mail.given → Obeys (f c.transaction) c d (replicate k blank) outbox said → new ≡ old ++ written outbox → ps ≡ seats_by dur said w.office.seats
    → (world w.log (office (coord_of d) ps (record { given = map plain_note new; posted = w.office.mail.posted; taken = w.office.mail.taken; waiting = w.office.mail.waiting })) w.told ≡ world w.log (by_register dur w.office (f t)) w.told)
    × (said ≡ (f t).reply)
registers-does f dur t k w c d old new outbox said ps e o s g q =
    let h = head-does (λ (u : ℕ). apart w.log (f u)) t k w c d w.log old new outbox said e o (apart-does (f c.transaction) c d w.log (replicate k blank) outbox said s) g in
    let r : ps ≡ seats_by dur (f t).reply w.office.seats = q ∙ ap (λ (y : Reply State). seats_by dur y w.office.seats) h.1 in
    (λ i. world w.log (office (h.0 i).office.coord (r i) (h.0 i).office.mail) w.told, h.1)

-- who sits at a seat that was just given
pub newcomer-is : {P : Type 0} (mp : LogMeans P) (dur : Durability) → party_of mp (newcomer dur) ≡ new_party dur
newcomer-is mp Volatile = refl
newcomer-is mp Durable = refl

-- somebody who is at his seat, or is no participant, may sit down
pub own-set : {P : Type 0} (t i : ℕ) (ps : List (Sitter P)) (p : Sitter P) → SeatsOwn t ps → ((x : Store P) → p ≡ Joined x → (x.participant.transaction ≡ t) × (x.participant.seat.value ≡ i)) → SeatsOwn t (set ps i p)
own-set t i ps p own new s x e = elim (set_cases ps i p s Nobody) [
  | inl a ↦ let n = new x (sym a.1 ∙ e) in (n.0, n.1 ∙ a.0)
  | inr b ↦ own s x (sym b ∙ e)
]

newcomer-none : {P : Type 0} (dur : Durability) (x : Store P) → newcomer dur ≡ Joined x → ⊥
newcomer-none Volatile x e = let z : ◌≡◌ {A = ℕ} 0 1 = cc in let no : ⊥ = omega arith in no
newcomer-none Durable x e = let z : ◌≡◌ {A = ℕ} 0 1 = cc in let no : ⊥ = omega arith in no

pub own-newcomer : {P : Type 0} (t i : ℕ) (ps : List (Sitter P)) (dur : Durability) → SeatsOwn t ps → SeatsOwn t (set ps i (newcomer dur))
own-newcomer t i ps dur own = own-set t i ps (newcomer dur) own (λ x e. absurd (newcomer-none dur x e))

-- a restart of the coordinator gives nothing
pub wakes-does : (t k : ℕ) (w : World) (c d : Coordinator) (l : LogState) → c.transaction ≡ t → Wakes (restart c.transaction k w.log) c d l
    → (world l (office (coord_of d) w.office.seats w.office.mail) w.told ≡ by_head w (restart t k w.log)) × (done 0 ≡ (restart t k w.log).reply)
wakes-does t k w c d l e a =
    let m = w.office.mail in
    subst (λ (u : ℕ). (world l (office (coord_of d) w.office.seats m) w.told ≡ by_head w (restart u k w.log)) × (done 0 ≡ (restart u k w.log).reply)) e
    (head-world w (restart c.transaction k w.log) (coord_of d) l m.given a.state a.table a.safe a.loose a.capacity (sym (append-nil m.given)), refl)

-- ── a participant's moves ──

pub at-any : {A : Type 0} (xs : List A) (i : ℕ) (x d : A) → i < length xs → x ≡ get_or xs i x → get_or xs i d ≡ x
at-any [] i x d h e = let no : ⊥ = omega arith in absurd no
at-any (y ∷ xs) zero x d h e = sym e
at-any (y ∷ xs) (suc i) x d h e = at-any xs i x d (omega arith) e

at-map : {A B : Type 0} (f : A → B) (xs : List A) (i : ℕ) (x : A) (d : B) → i < length xs → x ≡ get_or xs i x → get_or (map f xs) i d ≡ f x
at-map f [] i x d h e = let no : ⊥ = omega arith in absurd no
at-map f (y ∷ xs) zero x d h e = ap f (sym e)
at-map f (y ∷ xs) (suc i) x d h e = at-map f xs i x d (omega arith) e

-- the participant that has joined at a seat, and whose it is
pub sits : {P : Type 0} (mp : LogMeans P) (t : ℕ) (ps : List (Sitter P)) (i s : ℕ) (p : Sitter P) (x : Store P) → SeatsOwn t ps → length ps ≡ 16 → s < 16 → i ≡ s → p ≡ get_or ps i p → p ≡ Joined x
    → (get_or (map (party_of mp) ps) s nobody ≡ joined (store_of mp x)) × (x.participant.transaction ≡ t) × (x.participant.seat.value ≡ s) × (get_or ps s Nobody ≡ Joined x)
sits mp t ps i s p x own l b q e j =
    let h : s < length ps = omega arith in
    let f : p ≡ get_or ps s p = subst (λ (n : ℕ). p ≡ get_or ps n p) q e in
    let at = at-any ps s p Nobody h f ∙ j in
    let o = own s x at in
    (at-map (party_of mp) ps s p nobody h f ∙ ap (party_of mp) j, o.0, o.1, at)

-- what the turn of a participant's call makes
pub acts-does : {P : Type 0} (mp : LogMeans P) (f : ℕ → ℕ → Part → PartTurn) (t s k i : ℕ) (w : World) (x : Store P) (p : Participant) (l : P) (ps : List (Sitter P)) (old new outbox : List Row) (said : Result ℕ (Fault PartState))
    → x.participant.transaction ≡ t → x.participant.seat.value ≡ s → i ≡ s → get_or w.office.seats s nobody ≡ joined (store_of mp x) → w.office.seats ≡ map (party_of mp) ps → map plain_note old ≡ w.office.mail.given
    → ObeysPart (f x.participant.transaction x.participant.seat.value (store_of mp x)) x.participant p (log_of mp l) (replicate k blank) outbox said → new ≡ old ++ written outbox
    → (world w.log (office w.office.coord (map (party_of mp) (set ps i (Joined (record { participant = p; log = l })))) (record { given = map plain_note new; posted = w.office.mail.posted; taken = w.office.mail.taken; waiting = w.office.mail.waiting })) w.told
    ≡ world w.log (by_part (f t s) w.office s (seat_in w.office s)) w.told)
    × (reply_of said ≡ (f t s (store_of mp x)).reply)
acts-does {P = P} mp f t s k i w x p l ps old new outbox said et es ei sit seats o ob g =
    let m = w.office.mail in
    let turn = f x.participant.transaction x.participant.seat.value (store_of mp x) in
    let turn' = f t s (store_of mp x) in
    let same : turn ≡ turn' = ap₂ (λ (u v : ℕ). f u v (store_of mp x)) et es in
    let a = ob.leaves in
    let part-is : part p.state (log_of mp l) ≡ turn.after = λ j. part (a.state j) (same-log (log_of mp l) turn.after.log a.safe a.loose a.capacity j) in
    let after : part p.state (log_of mp l) ≡ turn'.after = part-is ∙ ap (λ (y : PartTurn). y.after) same in
    let given : map plain_note new ≡ m.given ++ turn'.sent = gave old new outbox turn.sent k g ob.rows ∙ ap₂ ◌++◌ o (ap (λ (y : PartTurn). y.sent) same) in
    let there = map-set (party_of mp) ps i (Joined (record { participant = p; log = l })) ∙ ap₂ (λ qs j. set qs j (joined (part p.state (log_of mp l)))) (sym seats) ei in
    let seats' = there ∙ ap (λ y. set w.office.seats s (joined y)) after in (
      ap₂ (λ qs ns. world w.log (office w.office.coord qs (record { given = ns; posted = m.posted; taken = m.taken; waiting = m.waiting })) w.told) seats' given
          ∙ ap (λ y. world w.log (by_part (f t s) w.office s y) w.told) (sym sit),
      a.reply ∙ ap (λ (y : PartTurn). y.reply) same,
    )

pub own-acted : {P : Type 0} (t s i : ℕ) (ps : List (Sitter P)) (x : Store P) (p : Participant) (l : P) → SeatsOwn t ps → i ≡ s → x.participant.transaction ≡ t → x.participant.seat.value ≡ s
    → p.transaction ≡ x.participant.transaction → p.seat ≡ x.participant.seat → SeatsOwn t (set ps i (Joined (record { participant = p; log = l })))
own-acted t s i ps x p l own ei et es e f = own-set t i ps (Joined (record { participant = p; log = l })) own (λ y q.
    let z : y.participant ≡ p = cc in
    let a : y.participant.transaction ≡ t = ap (λ (u : Participant). u.transaction) z ∙ e ∙ et in
    let b : y.participant.seat.value ≡ i = ap (λ (u : Participant). u.seat.value) z ∙ ap (λ (u : Seat). u.value) f ∙ es ∙ sym ei in
    (a, b))

-- ── a log without the transaction ──

not-both : (b : Bool) → not b ≡ true → b ≡ true → ⊥
not-both true e f = let z : ◌≡◌ {A = ℕ} 0 1 = cc in let no : ⊥ = omega arith in no
not-both false e f = let z : ◌≡◌ {A = ℕ} 0 1 = cc in let no : ⊥ = omega arith in no

not-false : (b : Bool) → not b ≡ false → b ≡ true
not-false true e = refl
not-false false e = sym e

pub fresh-log : (t : ℕ) (l : LogState) → not (some_is (of_transaction t) (l.safe ++ l.loose)) ≡ true → Fresh t l
fresh-log t l e (inl h) = not-both (some_is (of_transaction t) (l.safe ++ l.loose)) e (has_some (of_transaction t) (l.safe ++ l.loose) (has_left (of_transaction t) l.safe l.loose h))
fresh-log t l e (inr h) = not-both (some_is (of_transaction t) (l.safe ++ l.loose)) e (has_some (of_transaction t) (l.safe ++ l.loose) (has_right (of_transaction t) l.safe l.loose h))

pub stale-log : (t : ℕ) (l : LogState) → not (some_is (of_transaction t) (l.safe ++ l.loose)) ≡ false → Fresh t l → ⊥
stale-log t l e f = f (has-cases (of_transaction t) l.safe l.loose (some-has (of_transaction t) (l.safe ++ l.loose) (not-false (some_is (of_transaction t) (l.safe ++ l.loose)) e)))

-- a participant that joins at a seat that awaits one
pub joins-does : {P : Type 0} (mp : LogMeans P) (t s i : ℕ) (w : World) (ps : List (Sitter P)) (p : Participant) (l : P) → length ps ≡ 16 → s < 16 → i ≡ s → Awaited ≡ get_or ps i Awaited → w.office.seats ≡ map (party_of mp) ps → p.state ≡ Working
    → (seat_in w.office s ≡ awaited)
    × (world w.log (office w.office.coord (map (party_of mp) (set ps i (Joined (record { participant = p; log = l })))) w.office.mail) w.told ≡ world w.log (by_join w.office s (log_of mp l) (seat_in w.office s)) w.told)
joins-does mp t s i w ps p l b q e a seats st =
    let m = w.office.mail in
    let h : s < length ps = omega arith in
    let f : Awaited ≡ get_or ps s Awaited = subst (λ (n : ℕ). Awaited ≡ get_or ps n Awaited) e a in
    let sit : seat_in w.office s ≡ awaited = ap (λ qs. get_or qs s nobody) seats ∙ at-map (party_of mp) ps s Awaited nobody h f in
    let there = map-set (party_of mp) ps i (Joined (record { participant = p; log = l })) ∙ ap₂ (λ qs j. set qs j (joined (part p.state (log_of mp l)))) (sym seats) e
    ∙ ap (λ (x : PartState). set w.office.seats s (joined (part x (log_of mp l)))) st in (
      sit,
      ap₂ (λ qs ns. world w.log (office w.office.coord qs (record { given = ns; posted = m.posted; taken = m.taken; waiting = m.waiting })) w.told) there (sym (append-nil m.given))
          ∙ ap (λ y. world w.log (by_join w.office s (log_of mp l) y) w.told) (sym sit),
    )
