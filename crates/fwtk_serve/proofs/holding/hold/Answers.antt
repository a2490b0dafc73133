use Rattle.std.proofs.Common.{rules, refl}
use Rattle.fwtk_serve.proofs.HoldingLemmas.{all_back, book_own, holds_so, mail_own}
use Rattle.fwtk_serve.proofs.holding.hold.Goals as goal

pub into_pass-mail-requires : goal.into_pass-mail-requires
into_pass-mail-requires g c = all_back c.attend-ending.ensures.goes c.new-seat.ensures.out

pub returns-clause-holds : goal.returns-clause-holds
returns-clause-holds g c = holds_so _ _ _ _ _ _ _ c.new-port.result c.attend-ending.new.port c.new-seat.result c.attend-ending.new.seat
    (record {
      port_is = c.new-port.ensures.is;
      pass_is = c.new-seat.ensures.pass;
      out = c.new-seat.ensures.out;
      goes = c.attend-ending.ensures.goes;
      guest_service = c.attend-ending.ensures.service;
      guest_peer = c.attend-ending.ensures.peer;
      service = search rules;
      peer = search rules;
      places = c.into_pass-book.ensures.places;
      stays = c.attend-ending.ensures.origin;
      pass = c.into_pass-book.ensures.pass;
      begins = c.into_pass-book.ensures.begins;
      legal = c.into_pass-book.ensures.legal;
      full = c.into_pass-book.ensures.full;
      calm = c.into_pass-book.ensures.calm;
      mail = c.into_pass-mail.ensures;
    })

pub returns-clause-own : goal.returns-clause-own
returns-clause-own g c = record {
  book = book_own _ _ _ c.new-port.result c.attend-ending.new.port c.new-port.ensures.is c.attend-ending.ensures.origin c.into_pass-book.ensures.given;
  mail = mail_own _ c.new-seat.result c.attend-ending.new.seat c.args.passes.mail _ c.attend-ending.ensures.goes refl refl c.new-seat.ensures.pass c.into_pass-mail.ensures c.requires.passes.mail;
}
