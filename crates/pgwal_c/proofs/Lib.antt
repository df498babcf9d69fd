mod HandedIn
mod Telling
mod Crossing
