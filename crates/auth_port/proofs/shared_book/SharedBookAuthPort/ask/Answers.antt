use Rattle.std.proofs.Common.{ap, ◌∙◌, List, ℕ, ◌++◌, ◌∷◌, []}
use Rattle.auth_port.proofs.SharedAsks.{asks_early, asks_full, asks_lacking, asks_made, begins_early, begins_full, begins_lacking, begins_made, goes_early, goes_full, goes_lacking, goes_made, one_early, one_full, one_lacking, one_made}
use Rattle.auth_port.proofs.shared_book.SharedBookAuthPort.ask.Goals as goal

pub invariant_of-self-in-Entered : goal.invariant_of-self-in-Entered
invariant_of-self-in-Entered g c = goes_made c.args.sid c.args.at c.args.request (record { lock = c.self.inside.turns.now; first = c.self.inside.at_first.value }) c.self.inside.mine.items c.push_reserved.new.self.items c.self.inside.pass c.with_turn.new.pass c.self.invariant c.in-Entered.place c.in-Entered.reply c.in-Entered.ensures.turn (c.push_reserved.ensures.items ∙ ap (λ (l : List ℕ). l ++ c.in-Entered.place ∷ []) c.reserve.ensures.items)

pub returns-in-Entered-clause-asks : goal.returns-in-Entered-clause-asks
returns-in-Entered-clause-asks g c = asks_made c.args.sid c.args.at c.args.request (record { lock = c.self.inside.turns.now; first = c.self.inside.at_first.value }) c.self.inside.mine.items c.push_reserved.new.self.items c.self.inside.pass c.with_turn.new.pass c.self.invariant c.self.inside.refused c.self.inside.asks c.one_more-self-inside.result _ c.self.view_is c.one_more-self-inside.ensures c.in-Entered.place c.in-Entered.reply c.in-Entered.ensures.turn (c.push_reserved.ensures.items ∙ ap (λ (l : List ℕ). l ++ c.in-Entered.place ∷ []) c.reserve.ensures.items)

pub returns-in-Entered-clause-begins : goal.returns-in-Entered-clause-begins
returns-in-Entered-clause-begins g c = begins_made c.args.sid c.args.at c.args.request (record { lock = c.self.inside.turns.now; first = c.self.inside.at_first.value }) c.self.inside.mine.items c.push_reserved.new.self.items c.self.inside.pass c.with_turn.new.pass c.self.invariant c.self.inside.refused c.self.inside.asks c.one_more-self-inside.result _ c.self.view_is c.in-Entered.place c.in-Entered.reply c.in-Entered.ensures.turn

pub returns-in-Entered-clause-one_history : goal.returns-in-Entered-clause-one_history
returns-in-Entered-clause-one_history g c = one_made c.args.sid c.args.at c.args.request (record { lock = c.self.inside.turns.now; first = c.self.inside.at_first.value }) c.self.inside.mine.items c.push_reserved.new.self.items c.self.inside.pass c.with_turn.new.pass c.self.invariant c.self.inside.refused c.self.inside.asks c.one_more-self-inside.result _ c.self.view_is c.in-Entered.place c.in-Entered.reply c.in-Entered.ensures.turn (c.push_reserved.ensures.items ∙ ap (λ (l : List ℕ). l ++ c.in-Entered.place ∷ []) c.reserve.ensures.items)

pub invariant_of-self-in-Full : goal.invariant_of-self-in-Full
invariant_of-self-in-Full g c = goes_full c.args.sid c.args.at c.args.request (record { lock = c.self.inside.turns.now; first = c.self.inside.at_first.value }) c.self.inside.mine.items c.reserve.new.self.items c.self.inside.pass c.with_turn.new.pass c.self.invariant c.in-Full.limit c.in-Full.ensures.turn c.reserve.ensures.items

pub returns-in-Full-clause-asks : goal.returns-in-Full-clause-asks
returns-in-Full-clause-asks g c = asks_full c.args.sid c.args.at c.args.request (record { lock = c.self.inside.turns.now; first = c.self.inside.at_first.value }) c.self.inside.mine.items c.reserve.new.self.items c.self.inside.pass c.with_turn.new.pass c.self.invariant c.self.inside.refused c.self.inside.asks c.one_more-self-inside.result _ c.self.view_is c.one_more-self-inside.ensures c.in-Full.limit c.in-Full.ensures.turn c.reserve.ensures.items

pub returns-in-Full-clause-begins : goal.returns-in-Full-clause-begins
returns-in-Full-clause-begins g c = begins_full c.args.sid c.args.at c.args.request (record { lock = c.self.inside.turns.now; first = c.self.inside.at_first.value }) c.self.inside.mine.items c.reserve.new.self.items c.self.inside.pass c.with_turn.new.pass c.self.invariant c.self.inside.refused c.self.inside.asks c.one_more-self-inside.result _ c.self.view_is c.in-Full.limit c.in-Full.ensures.turn

pub returns-in-Full-clause-one_history : goal.returns-in-Full-clause-one_history
returns-in-Full-clause-one_history g c = one_full c.args.sid c.args.at c.args.request (record { lock = c.self.inside.turns.now; first = c.self.inside.at_first.value }) c.self.inside.mine.items c.reserve.new.self.items c.self.inside.pass c.with_turn.new.pass c.self.invariant c.self.inside.refused c.self.inside.asks c.one_more-self-inside.result _ c.self.view_is c.in-Full.limit c.in-Full.ensures.turn c.reserve.ensures.items

pub invariant_of-self-in-NoMemory : goal.invariant_of-self-in-NoMemory
invariant_of-self-in-NoMemory g c = goes_lacking c.args.sid c.args.at c.args.request (record { lock = c.self.inside.turns.now; first = c.self.inside.at_first.value }) c.self.inside.mine.items c.reserve.new.self.items c.self.inside.pass c.with_turn.new.pass c.self.invariant c.in-NoMemory.ensures.turn c.reserve.ensures.items

pub returns-in-NoMemory-clause-asks : goal.returns-in-NoMemory-clause-asks
returns-in-NoMemory-clause-asks g c = asks_lacking c.args.sid c.args.at c.args.request (record { lock = c.self.inside.turns.now; first = c.self.inside.at_first.value }) c.self.inside.mine.items c.reserve.new.self.items c.self.inside.pass c.with_turn.new.pass c.self.invariant c.self.inside.refused c.self.inside.asks c.one_more-self-inside.result _ c.self.view_is c.one_more-self-inside.ensures c.in-NoMemory.ensures.turn c.reserve.ensures.items

pub returns-in-NoMemory-clause-begins : goal.returns-in-NoMemory-clause-begins
returns-in-NoMemory-clause-begins g c = begins_lacking c.args.sid c.args.at c.args.request (record { lock = c.self.inside.turns.now; first = c.self.inside.at_first.value }) c.self.inside.mine.items c.reserve.new.self.items c.self.inside.pass c.with_turn.new.pass c.self.invariant c.self.inside.refused c.self.inside.asks c.one_more-self-inside.result _ c.self.view_is c.in-NoMemory.ensures.turn

pub returns-in-NoMemory-clause-one_history : goal.returns-in-NoMemory-clause-one_history
returns-in-NoMemory-clause-one_history g c = one_lacking c.args.sid c.args.at c.args.request (record { lock = c.self.inside.turns.now; first = c.self.inside.at_first.value }) c.self.inside.mine.items c.reserve.new.self.items c.self.inside.pass c.with_turn.new.pass c.self.invariant c.self.inside.refused c.self.inside.asks c.one_more-self-inside.result _ c.self.view_is c.in-NoMemory.ensures.turn c.reserve.ensures.items

pub invariant_of-self : goal.invariant_of-self
invariant_of-self g c = goes_early (record { lock = c.self.inside.turns.now; first = c.self.inside.at_first.value }) c.self.inside.mine.items c.reserve.new.self.items c.self.inside.pass c.reserve.ensures.items c.self.invariant

pub returns-then-is_err-clause-asks : goal.returns-then-is_err-clause-asks
returns-then-is_err-clause-asks g c = asks_early (record { lock = c.self.inside.turns.now; first = c.self.inside.at_first.value }) c.self.inside.pass.seen c.self.inside.mine.items c.reserve.new.self.items c.self.inside.refused c.self.inside.asks c.one_more-self-inside.result _ c.self.view_is c.reserve.ensures.items c.one_more-self-inside.ensures

pub returns-then-is_err-clause-begins : goal.returns-then-is_err-clause-begins
returns-then-is_err-clause-begins g c = begins_early (record { lock = c.self.inside.turns.now; first = c.self.inside.at_first.value }) c.self.inside.pass.seen c.self.inside.mine.items c.reserve.new.self.items c.self.inside.refused c.self.inside.asks c.one_more-self-inside.result _ c.self.view_is c.reserve.ensures.items

pub returns-then-is_err-clause-one_history : goal.returns-then-is_err-clause-one_history
returns-then-is_err-clause-one_history g c = one_early (record { lock = c.self.inside.turns.now; first = c.self.inside.at_first.value }) c.self.inside.pass.seen c.self.inside.mine.items c.reserve.new.self.items c.self.inside.refused c.self.inside.asks c.one_more-self-inside.result _ c.self.view_is c.reserve.ensures.items
