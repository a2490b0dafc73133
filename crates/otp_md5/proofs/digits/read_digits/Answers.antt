use Rattle.std.proofs.Common.{ℕ, Some, Option, ap, sym, ◌∙◌, refl}
use Rattle.hex.specs.Hex.{decode_sized}
use Rattle.otp_md5.proofs.DigitLemmas.{decoded_word, refused_word}
use Rattle.otp_md5.proofs.digits.read_digits.Goals as goal

pub returns-in-Ok : goal.returns-in-Ok
returns-in-Ok c =
    let number = decoded_word c.args.digits.now c.decode_to_slice.new.out (decode_sized c.args.digits.now 8) c.decode_to_slice.result refl c.decode_to_slice.ensures.value c.in-Ok.is in
    ap (λ (n : ℕ). let answer : Option ℕ = Some n in answer) c.from_be_bytes.ensures ∙ sym number

pub returns-in-Err : goal.returns-in-Err
returns-in-Err c = sym (refused_word c.args.digits.now c.decode_to_slice.new.out (decode_sized c.args.digits.now 8) c.decode_to_slice.result c.in-Err.field-0 refl c.decode_to_slice.ensures.value c.in-Err.is)
