use Rattle.std.proofs.Common.{ℕ, Option, subst}
use Rattle.telnet.specs.Place.{Strips, held}
use Rattle.telnet.specs.TelnetView.{HearsByte, TelnetView}
use Rattle.telnet.specs.declared.step.TelnetStep.TheVariants.{More}
use Rattle.telnet.proofs.ReadingLemmas.{hears_some, hears_none, none_heard, seen}
use Rattle.telnet.proofs.PlaceLemmas.{data_of-held}
use Rattle.telnet.proofs.reader.Telnet.feed.Goals as goal

pub returns-in-Some-clause-hears : goal.returns-in-Some-clause-hears
returns-in-Some-clause-hears c =
    let inside = c.self.inside in
    let place = c.behind-place.result.0 in
    let S : Option ℕ → Type 0 = λ given. Strips (held inside.place) (held place) c.args.byte given in
    let P : TelnetView → Type 0 = λ old. HearsByte c.take.result old (seen c.take.new.self (held place)) c.args.byte in
    subst P c.self.view_is (hears_some c.take.result inside.cutter c.take.new.self (held inside.place) (held place) c.args.byte c.in-Some.data_byte (subst S c.in-Some.is c.behind-place.ensures.strips) c.take.ensures.cuts)

pub returns-in-Some-clause-prompt : goal.returns-in-Some-clause-prompt
returns-in-Some-clause-prompt c = none_heard c.take.new.self (held c.behind-place.result.0) (data_of-held c.behind-place.result.0) c.take.ensures.prompt

pub returns-in-None-clause-hears : goal.returns-in-None-clause-hears
returns-in-None-clause-hears c =
    let inside = c.self.inside in
    let place = c.behind-place.result.0 in
    let S : Option ℕ → Type 0 = λ given. Strips (held inside.place) (held place) c.args.byte given in
    let P : TelnetView → Type 0 = λ old. HearsByte More old (seen inside.cutter (held place)) c.args.byte in
    subst P c.self.view_is (hears_none inside.cutter (held inside.place) (held place) c.args.byte (subst S c.in-None.is c.behind-place.ensures.strips))

pub returns-in-None-clause-prompt : goal.returns-in-None-clause-prompt
returns-in-None-clause-prompt c = none_heard c.self.inside.cutter (held c.behind-place.result.0) (data_of-held c.behind-place.result.0) c.self.invariant
