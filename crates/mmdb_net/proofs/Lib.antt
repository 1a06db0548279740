pub mod BitLaws
pub mod AddressLaws
mod SlashLaws
mod TextLaws
pub mod NetworkLaws
