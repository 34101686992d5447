-- The laws of messages, tokens, loads and rests of one event, in one record.
use Rattle.nc_holds.proofs.messages.Laws.{messages_go_on}
use Rattle.nc_holds.proofs.tokens.GoesOn.{tokens_go_on, loads_go_on, rests_go_on}
use Rattle.nc_holds.proofs.events.Given.{EventLaws}

pub event_laws : EventLaws
event_laws = record {
  messages = λ w e is. messages_go_on w e is.sound is.holds is.there is.may;
  tokens = λ w e g is lt. tokens_go_on w e is.sound is.holds is.there is.may g lt;
  loads = λ w e g is lt. loads_go_on w e is.sound is.holds is.there is.may g lt;
  rests = λ w e g is lt. rests_go_on w e is.sound is.holds is.there is.may g lt;
}
