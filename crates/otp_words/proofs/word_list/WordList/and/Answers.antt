use Rattle.std.proofs.Common.{◌≡◌, ◌∷◌, ◌++◌, ◌∙◌, ap, [], length, arith, length-append}
use Rattle.std.specs.Prelude.{position, None}
use Rattle.std.specs.Str.{bytes_eq}
use Rattle.std.proofs.lemmas.List.{length-map}
use Rattle.otp_words.specs.Indexed.{items_of}
use Rattle.otp_words.proofs.ListLemmas.{apart_push, index_push, items_push}
use Rattle.otp_words.proofs.word_list.WordList.and.Goals as goal

pub invariant_of-result : goal.invariant_of-result
invariant_of-result c =
    let inside = c.self.inside in
    let words = items_of inside.words.items in
    let grown : items_of c.push.new.self.items ≡ words ++ c.args.word.items ∷ [] = ap items_of c.in_ok-push.ensures.items ∙ items_push inside.words.items c.args.word in
    let none : position (bytes_eq c.args.word.items) words ≡ None = rw (← c.self.view_is) at c.requires.apart in
    let room = rw (← c.self.view_is) at c.requires.room in
    let count : c.len.result ≡ length words = omega (arith, c.len.ensures, length-map inside.words.items (λ word. word.items)) in
    rw grown (
      omega (arith, length-append words (c.args.word.items ∷ []), room),
      apart_push words c.args.word.items c.self.invariant.1 c.requires.form none,
      index_push inside.numbers c.insert.new.self words c.copy_of.result c.args.word.items c.len.result c.self.invariant.2 count (c.copy_of.ensures ∙ c.as_slice.ensures.value) none c.in_ok-insert.ensures.updates,
    )
