use Rattle.std.proofs.Common.{◌≡◌, ◌<◌, false, [], ◌∷◌, Some, refl, subst, arith}
use Rattle.std.proofs.lemmas.Fmt.{hex_byte}
use Rattle.std.specs.Fmt.{DisplaysOnOk, styled_digits_output, ◌++?◌}
use Rattle.wording.specs.Texts.{byte_text}
use Rattle.wording.proofs.text.write_byte.Goals as goal

pub returns : goal.returns
returns g c =
    let b = c.args.byte in
    let fit : b < 256 = omega arith in
    let said : (Some (32 ∷ []) ++? styled_digits_output c.in_radix.result c.laid_out.result) ≡ Some (byte_text b) =
    rw (c.laid_out.ensures, c.in_radix.ensures, hex_byte false b fit) refl in
    subst (λ o. DisplaysOnOk g.W.Write.write_str_gives c.args.f.now c.write.result o c.write.new.self) said c.write.ensures.writes
