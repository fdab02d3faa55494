mod Making
mod Playing
mod Filling
