use Rattle.std.proofs.Common.{◌≡◌, ◌++◌, drop, length}
use Rattle.std.specs.Prelude.{filter_map}
use Rattle.std.specs.List.{list_all}
use Rattle.gate_rules.specs.Lists.{is_verb_word, verb_in}
use Rattle.gate_rules.proofs.lists.verbs_of.Given as goal

abbrev pub invariant-loop-word : goal.invariant-loop-word
invariant-loop-word l = record {
  count : length l.verbs ≡ l.word-index;
  all : list_all is_verb_word (drop l.word-index l.few) ≡ list_all is_verb_word l.few;
  items : l.verbs ++ filter_map verb_in (drop l.word-index l.few) ≡ filter_map verb_in l.few;
}
