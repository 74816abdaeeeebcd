mod Numbered
mod SameIds
mod Looked
mod Ordered
mod Lent
mod Holding
mod Stayed
mod Listed
