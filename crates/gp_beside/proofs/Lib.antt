mod Listed
mod Put
mod Sighted
