mod Shifts
