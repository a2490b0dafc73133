use Rattle.std.proofs.Common.{◌∙◌, ◌+◌, ℕ, Bool, sym, ap, take, drop}
use Rattle.std.specs.Prelude.{◌==◌}
use Rattle.std.proofs.lemmas.List.{take_rest}
use Rattle.netperm_table.proofs.WordLemmas.{found, none_found}
use Rattle.netperm_table.proofs.cut.cut_at.Goals as goal

pub returns-in-Some : goal.returns-in-Some
returns-in-Some c =
    let bytes = c.args.bytes.now in
    let p : ℕ → Bool = λ b. b == c.args.byte in
    let at = found p bytes c.in-Some.at (sym c.find.ensures ∙ c.in-Some.is) in
    record {
      is = sym at.0;
      front = ap (λ n. take n bytes) at.1;
      back = take_rest bytes (c.in-Some.at + 1) ∙ ap (λ n. drop (n + 1) bytes) at.1;
    }

pub returns-in-None : goal.returns-in-None
returns-in-None c =
    let p : ℕ → Bool = λ b. b == c.args.byte in
    record {
      is = sym (none_found p c.args.bytes.now (sym c.find.ensures ∙ c.in-None.is));
      front = tt;
      back = tt;
    }
