use Rattle.std.proofs.Common.{◌≡◌, ◌<◌, length, get_or, take, drop, sym, ap, ◌∙◌, subst, arith}
use Rattle.records.specs.Bytes.{rec_of, runs_of, ReadsRow}
use Rattle.records.specs.Pairs.{covers, pairs_in}
use Rattle.records.specs.Recs.{Rec, model_of}
use Rattle.seats.specs.Sets.{bits_of}
use Rattle.records.proofs.RecordFacts.{length-bytes, rec_of_lem, written_of, seats-in, runs-of-ranges, whole}
use Rattle.records.proofs.ValueFacts.{same-rec}
use Rattle.records.proofs.codec.read_row.Goals as goal

pub returns-then-bytes-ne-RECORD_BYTES : goal.returns-then-bytes-ne-RECORD_BYTES
returns-then-bytes-ne-RECORD_BYTES c r e = c.if-bytes-ne-RECORD_BYTES.true (ap length e ∙ length-bytes r)

pub returns-in_err-seats : goal.returns-in_err-seats
returns-in_err-seats c =
    let bs = c.args.bytes.now in
    subst (ReadsRow bs) (sym c.from_residual.ensures) (λ r e. c.in_err-seats.ensures (written_of bs r e))

pub returns : goal.returns
unfolding rec_of
returns c r =
    let bs = c.args.bytes.now in
    let t = c.from_be_bytes-transaction.result in
    let w : Rec = record { transaction = t; kind = get_or bs 4 0; seats = c.bits.result } in
    let ps = pairs_in (get_or bs 5 0) (take 16 (drop 6 bs)) in
    let set : c.bits.result ≡ bits_of 16 (covers ps) = c.bits.ensures ∙ c.in_ok-seats.ensures.1 in
    let la : get_or bs 0 0 < 256 = omega (arith, c.type_inv.bytes 0) in
    let lb : get_or bs 1 0 < 256 = omega (arith, c.type_inv.bytes 1) in
    let lc : get_or bs 2 0 < 256 = omega (arith, c.type_inv.bytes 2) in
    let ld : get_or bs 3 0 < 256 = omega (arith, c.type_inv.bytes 3) in (
      λ e.
          let m = ap rec_of e ∙ rec_of_lem r in
          same-rec w (model_of r) (c.from_be_bytes-transaction.ensures ∙ ap (λ (x : Rec). x.transaction) m) (ap (λ (x : Rec). x.kind) m)
          (set ∙ seats-in bs r e),
      λ e.
          whole bs r c.if-bytes-ne-RECORD_BYTES.false la lb lc ld (sym (ap (λ (x : Rec). x.transaction) e) ∙ c.from_be_bytes-transaction.ensures)
          c.in_ok-seats.ensures.0 (ap (λ (x : Rec). x.kind) e)
          (runs-of-ranges 16 ps c.in_ok-seats.ensures.0.apart ∙ ap runs_of (sym set ∙ ap (λ (x : Rec). x.seats) e)),
    )
