use Rattle.std.proofs.Common.{rules, ◌≡◌, ℕ, suc, ◌+◌, ◌<◌, List, [], ◌∷◌, ◌++◌, length, drop, add-one, drop-cons, sym, ◌∙◌, ap, subst, arith}
use Rattle.std.proofs.lemmas.List.Elements.{All-push}
use Rattle.auth_records.specs.Spelling.{HasForm}
use Rattle.auth_machine.proofs.OpeningLemmas.{HasRead, one_more}
use Rattle.auth_machine.proofs.opening.read_entries.Goals as goal

pub loop-entry-preserved : goal.loop-entry-preserved
loop-entry-preserved c =
    let at = c.loop-entry.entry-index in
    let all = c.args.entries.now in
    let within : at < length all = omega arith in
    let next : drop at all ≡ c.entry-item.result ∷ drop (at + 1) all =
    rw add-one (drop-cons all at c.entry-item.result within ∙ ap (λ (entry : List ℕ × List ℕ). entry ∷ drop (suc at) all) (sym c.entry-item.is)) in
    let has : HasRead c.loop-entry.records.items (c.entry-item.result ∷ drop (at + 1) all) all = subst (λ (left : List (List ℕ × List ℕ)). HasRead c.loop-entry.records.items left all) next c.loop-entry.invariant.read in
    let more = one_more c.loop-entry.records.items c.in-Ok.user c.entry-item.result (drop (at + 1) all) all has (search rules) in
    let items : c.push.new.self.items ≡ c.loop-entry.records.items ++ c.in-Ok.user ∷ [] = search rules in
    record { read = rw items more; formed = rw items (All-push HasForm c.loop-entry.records.items c.in-Ok.user c.loop-entry.invariant.formed c.in-Ok.ensures.formed) }
