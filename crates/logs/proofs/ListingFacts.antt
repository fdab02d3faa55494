-- One step of the iterator over a log's records.
use Rattle.std.proofs.Common.{◌≡◌, ℕ, ◌+◌, ◌-◌, ◌<◌, ◌≤◌, List, [], ◌∷◌, length, get_or, take, drop, Some, None, Option, sym, ap, ◌∙◌, ⊎_elim, arith, length-take}
use Rattle.std.proofs.lemmas.Bool.{cases_lt}
use Rattle.std.proofs.lemmas.List.{drop_all, drop_more, get_or-take}
use Rattle.std.proofs.lemmas.Option.{none-some, slice_get-get_or, slice_get_within, get_or_from_slice_get}
use Rattle.std.specs.Iterator.{YieldsFirstBy, MakesProgress, item_count}
use Rattle.std.specs.List.{slice_get}
use Rattle.std.specs.Option.{MatchOption, option_map}
use Rattle.records.specs.Recs.{Rec, model_of}
use Rattle.records.specs.declared.record.Record.{Record}

ended : (xs : List Rec) (a b : ℕ) → length xs ≤ a → drop a (take b xs) ≡ []
ended xs a b h = drop_all a (take b xs) (simp length-take (omega arith))

stepped : (xs : List Rec) (a b : ℕ) (o : Option Record) → a < b → option_map model_of o ≡ slice_get xs a
    → MatchOption o ((drop a (take b xs) ≡ []) × (drop (a + 1) (take b xs) ≡ [])) (λ r. drop a (take b xs) ≡ model_of r ∷ drop (a + 1) (take b xs))
stepped xs a b (Some r) h e =
    let m = model_of r in
    let l : a < length xs = slice_get_within xs a m (sym e) in
    let t : a < length (take b xs) = simp length-take (omega arith) in
    let is : get_or (take b xs) a m ≡ m = get_or-take b xs a m h ∙ get_or_from_slice_get xs a m m (sym e) in
    drop_more (take b xs) a m t ∙ ap (λ (x : Rec). x ∷ drop (a + 1) (take b xs)) is
stepped xs a b None h e =
    ⊎_elim
    (λ (l : a < length xs). absurd (none-some _ (e ∙ slice_get-get_or xs a (get_or xs a (record { transaction = 0; kind = 0; seats = 0 })) l)))
    (λ (l : length xs ≤ a). (ended xs a b l, ended xs (a + 1) b (omega arith)))
    (cases_lt a (length xs))

-- record n of a log is read, where the numbers from a up to b are left: with it, those behind it are left; where there is none, nothing is
pub steps : (xs : List Rec) (a b n a' b' : ℕ) (o : Option Record) → b' ≡ b → 0 < b - a → n ≡ a → a' ≡ a + 1 → option_map model_of o ≡ slice_get xs n
    → MatchOption o ((drop a (take b xs) ≡ []) × (drop a' (take b' xs) ≡ [])) (λ r. drop a (take b xs) ≡ model_of r ∷ drop a' (take b' xs))
steps xs a b n a' b' o same some at on e = rw (same, on) (stepped xs a b o (omega arith) (e ∙ ap (slice_get xs) at))

-- each record makes what is left shorter
pub progress : {S : Type 0} (rest : S → List Rec) (s t : S) (o : Option Record) → YieldsFirstBy model_of rest s o t → MakesProgress (λ _. Unit {0}) (item_count rest) s o t
progress rest s t (Some r) h = let e = ap length h in record { on = λ _. (tt, tt, omega arith); keeps = tt; rests = λ _. tt }
progress rest s t None h = record { on = λ _. tt; keeps = tt; rests = λ _. tt }
