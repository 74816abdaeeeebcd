pub mod Hand
pub mod Rule
pub mod Tickets
pub mod TicketLaws
pub mod Drawn
