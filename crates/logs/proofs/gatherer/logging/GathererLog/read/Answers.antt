use Rattle.std.proofs.Common.{◌≡◌, ℕ, ◌+◌, ◌-◌, List, map, length, get_or, take, is_some, ltb, Some, None, Option, Bor, sym, ap, ◌∙◌, refl, arith}
use Rattle.std.proofs.lemmas.Bool.{ltb-true, ltb-false}
use Rattle.std.proofs.lemmas.Option.{slice_get-map, slice_get-get_or, slice_get_past}
use Rattle.std.specs.List.{slice_get}
use Rattle.std.specs.Option.{IfSome, option_copied, option_map}
use Rattle.records.specs.Recs.{Rec, model_of}
use Rattle.records.specs.declared.record.Record.{Record}
use Rattle.logs.specs.Gathering.{first_of}
use Rattle.logs.proofs.GatherFacts.{read_below, read_above}
use Rattle.logs.proofs.gatherer.logging.GathererLog.read.Goals as goal

-- what `get` gives of a slice
got : (xs : List Record) (k : ℕ) (o : Option (Bor Record)) → is_some o ≡ ltb k (length xs) → IfSome o (λ x. x.now ≡ get_or xs k x.now) → option_copied o ≡ slice_get xs k
got xs k (Some x) a b = ap Some b ∙ sym (slice_get-get_or xs k x.now (ltb-true k (length xs) (sym a)))
got xs k None a b = sym (slice_get_past xs k (ltb-false k (length xs) (sym a)))

-- the first n mean what they mean one by one
pub meant : (n : ℕ) (xs : List Record) → map model_of (take n xs) ≡ first_of n xs
unfolding first_of
meant n xs = refl

pub returns-then-i-under : goal.returns-then-i-under
returns-then-i-under g c =
    let m = g.L.Log in
    let t = c.args.self.now in
    let b = t.below in
    c.read.ensures ∙ read_below (m.safe b) (m.loose b) (first_of t.holding t.held) c.args.i (omega arith)

pub returns : goal.returns
returns g c =
    let m = g.L.Log in
    let t = c.args.self.now in
    let b = t.below in
    let i = c.args.i in
    let n = length (m.safe b) + length (m.loose b) in
    let es = take t.holding t.held in
    let under : c.count-under.result ≡ n = c.count-under.ensures in
    let k = i - c.count-under.result in
    let h = c.get.ensures.lookup in
    let read : option_map model_of c.copied.result ≡ slice_get (map model_of es) k =
    ap (option_map model_of) (c.copied.ensures ∙ got es k c.get.result h.0 h.1) ∙ sym (slice_get-map model_of es k) in
    read ∙ ap (λ (z : List Rec). slice_get z k) (meant t.holding t.held) ∙ ap (λ (j : ℕ). slice_get (first_of t.holding t.held) (i - j)) under
    ∙ read_above (m.safe b) (m.loose b) (first_of t.holding t.held) i (omega arith)
