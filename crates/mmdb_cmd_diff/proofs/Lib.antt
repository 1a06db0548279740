mod Seeing
mod Showing
mod Telling
mod Walking
mod Liking
mod Gathering
mod Changed
