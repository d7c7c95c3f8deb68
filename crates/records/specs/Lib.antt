pub mod Booking
pub mod Reported
