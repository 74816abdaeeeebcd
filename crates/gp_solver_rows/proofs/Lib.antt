mod Goodness
mod Mailing
